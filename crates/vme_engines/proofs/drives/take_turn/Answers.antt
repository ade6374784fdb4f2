use Rattle.std.proofs.Common.{sym, ◌∙◌}
use Rattle.vme_engines.proofs.Driven.{turn_made}
use Rattle.vme_engines.proofs.drives.take_turn.Goals as goal

pub returns-in-Some : goal.returns-in-Some
returns-in-Some c =
    c.step.ensures.state
    ∙ turn_made c.args.round c.args.edges c.args.backplane.now c.args.driver c.in-Some.edge (λ e. c.if-len-edges.false (c.len.ensures ∙ e))
    (sym c.offer.ensures ∙ c.in-Some.is)
