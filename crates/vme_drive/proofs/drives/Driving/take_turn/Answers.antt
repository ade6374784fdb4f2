use Rattle.std.proofs.Common.{◌∙◌}
use Rattle.vme_drive.proofs.DrivenLines.{turn_listed}
use Rattle.vme_drive.proofs.drives.Driving.take_turn.Goals as goal

pub returns-in-Some : goal.returns-in-Some
returns-in-Some g c =
    turn_listed c.args.round _ _ _ c.args.driver _ _ _ _ _ c.make_offer.ensures.offer c.make_offer.ensures.state _ c.in-Some.is
    (λ e. c.if-len-edges.false (c.len.ensures ∙ e)) c.put_line.result c.put_line.ensures.ok c.put_line.ensures.front c.put_line.ensures.fault
