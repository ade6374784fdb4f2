use Rattle.std.proofs.Common.{sym, ap, ◌∙◌}
use Rattle.std.specs.Prelude.{slice_index}
use Rattle.vme_lock.specs.declared.views.Turn.{Turn}
use Rattle.vme_lock.specs.Holds.{turn_answer}
use Rattle.vme_lock.proofs.HoldAnswers.{turn_lost, turn_seen, turn_is}
use Rattle.vme_lock.proofs.laws.turn_in.Goals as goal

pub returns-then-made-seat-clause-answer : goal.returns-then-made-seat-clause-answer
returns-then-made-seat-clause-answer g c =
    let own = ap (slice_index c.held.inside.counts) c.desk.ensures.place ∙ c.held.invariant.0.counts.counted c.seat.inside.driver c.seat.invariant.2 in
    turn_lost c.held.inside.backplane _ c.args.turn _ own c.if-made-seat.true ∙ (λ i. turn_answer (c.held.view_is i).board (c.seat.view_is i) c.args.turn)

pub returns-clause-answer : goal.returns-clause-answer
returns-clause-answer g c =
    let own = ap (slice_index c.held.inside.counts) c.desk.ensures.place ∙ c.held.invariant.0.counts.counted c.seat.inside.driver c.seat.invariant.2 in
    let b = c.held.inside.backplane in
    let v : Turn = record { offer = c.offer-offer.result; total = c.len-total.result } in
    turn_seen b _ c.args.turn v (turn_is b c.seat.inside.driver c.args.turn v c.offer-offer.ensures c.len-total.ensures) (sym own ∙ c.if-made-seat.false)
    ∙ (λ i. turn_answer (c.held.view_is i).board (c.seat.view_is i) c.args.turn)
