use Rattle.std.proofs.Common.{sym, ap, ◌∙◌}
use Rattle.std.specs.Prelude.{slice_index}
use Rattle.vme_lock.specs.declared.views.View.{View}
use Rattle.vme_lock.specs.Holds.{look_answer}
use Rattle.vme_lock.proofs.HoldAnswers.{look_lost, look_seen, seen_is}
use Rattle.vme_lock.proofs.laws.look_in.Goals as goal

pub returns-then-own-seat-clause-answer : goal.returns-then-own-seat-clause-answer
returns-then-own-seat-clause-answer g c =
    let own = ap (slice_index c.held.inside.counts) c.desk.ensures.place ∙ c.held.invariant.0.counts.counted c.seat.inside.driver c.seat.invariant.2 in
    look_lost c.held.inside.backplane _ _ own c.if-own-seat.true ∙ (λ i. look_answer (c.held.view_is i).board (c.seat.view_is i))

pub returns-clause-answer : goal.returns-clause-answer
returns-clause-answer g c =
    let own = ap (slice_index c.held.inside.counts) c.desk.ensures.place ∙ c.held.invariant.0.counts.counted c.seat.inside.driver c.seat.invariant.2 in
    let b = c.held.inside.backplane in
    let v : View = record { pins = c.pins.result; offers = c.offers.result; own = slice_index c.held.inside.counts c.desk.result; total = c.len.result } in
    look_seen b _ v (seen_is b c.seat.inside.driver v c.pins.ensures c.offers.ensures own c.len.ensures) (sym own ∙ c.if-own-seat.false)
    ∙ (λ i. look_answer (c.held.view_is i).board (c.seat.view_is i))
