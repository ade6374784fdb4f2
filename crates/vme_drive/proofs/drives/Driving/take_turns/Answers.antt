use Rattle.std.proofs.lemmas.Result.{err_from_is_err_and}
use Rattle.vme_drive.proofs.DrivenLines.{listed_both, controller_first, controller_front}
use Rattle.vme_drive.proofs.drives.Driving.take_turns.Goals as goal

pub returns-in_err-take_turn : goal.returns-in_err-take_turn
returns-in_err-take_turn g c =
    let e = err_from_is_err_and c.from_residual.result c.from_residual.ensures.1 in
    rw (e.1, e.2) (
      c.in_err-take_turn.ensures.0,
      λ first listed. controller_front c.args.round c.args.edges c.args.self.now.bus first _ (c.in_err-take_turn.ensures.1 first listed),
    )

pub returns : goal.returns
returns g c =
    listed_both c.args.self.now.bus c.take_turn.new.self.bus c.take_slots.new.self.bus _ _ c.args.self.now.text c.take_turn.new.self.text c.take_slots.new.self.text
    (g.W.Write.contents c.args.out.now) (g.W.Write.contents c.take_turn.new.out) (g.W.Write.contents c.take_slots.new.out) c.in_ok-take_turn.ensures.1
    (controller_first c.args.round c.args.edges c.args.self.now.bus c.take_turn.new.self.bus c.in_ok-take_turn.ensures.0) c.take_slots.result c.take_slots.ensures
