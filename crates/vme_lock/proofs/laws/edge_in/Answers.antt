use Rattle.std.proofs.Common.{sym, ap, ◌∙◌}
use Rattle.std.specs.Prelude.{slice_index}
use Rattle.vme_lock.specs.Seats.{Keeping}
use Rattle.vme_lock.specs.Holds.{by_step, edge_answer}
use Rattle.vme_lock.proofs.Answering.{edge_lost, edge_stepped}
use Rattle.vme_lock.proofs.Holding.{stepped, held_after}
use Rattle.vme_lock.proofs.Standing.{answered_is_well_formed}
use Rattle.vme_lock.proofs.laws.edge_in.Goals as goal

pub returns-then-own-made-clause-answer : goal.returns-then-own-made-clause-answer
returns-then-own-made-clause-answer g c =
    let same = sym c.is_same.ensures ∙ c.if-not-is_same.false in
    let own = ap (slice_index c.held.inside.counts) c.desk-desk.ensures.place ∙ c.held.invariant.0.counts.counted c.seat.inside.driver c.seat.invariant.2 in
    edge_lost c.held.inside.backplane _ c.args.edge _ same own c.if-own-made.true ∙ (λ i. edge_answer (c.held.view_is i).board (c.seat.view_is i) c.args.edge)

pub invariant_of-held-in-Ok : goal.invariant_of-held-in-Ok
invariant_of-held-in-Ok g c =
    let same = sym c.is_same.ensures ∙ c.if-not-is_same.false in
    let k : Keeping = record { board = c.held.inside.backplane; counts = c.held.inside.counts; total = c.held.inside.book.total } in
    let made = stepped c.held.inside.backplane c.step.new.self c.args.edge c.step.result c.in-Ok.delivery c.in-Ok.is c.step.ensures.accepted c.step.ensures.state in
    (held_after g.L.Rig.opened k c.args.edge c.seat.inside.driver c.step.new.self c.desk-desk.result c.add.new.self.total c.held.invariant.0 c.seat.invariant.2 same made c.desk-desk.ensures.place c.add.ensures.total, c.held.invariant.1, c.held.invariant.2)

pub returns-in-Err-clause-answer : goal.returns-in-Err-clause-answer
returns-in-Err-clause-answer g c =
    let same = sym c.is_same.ensures ∙ c.if-not-is_same.false in
    let own = ap (slice_index c.held.inside.counts) c.desk-desk.ensures.place ∙ c.held.invariant.0.counts.counted c.seat.inside.driver c.seat.invariant.2 in
    ap by_step (sym c.in-Err.is ∙ c.step.ensures.answer) ∙ edge_stepped c.held.inside.backplane _ c.args.edge same (sym own ∙ c.if-own-made.false) ∙ (λ i. edge_answer (c.held.view_is i).board (c.seat.view_is i) c.args.edge)

pub returns-in-Ok-clause-answer : goal.returns-in-Ok-clause-answer
returns-in-Ok-clause-answer g c =
    let same = sym c.is_same.ensures ∙ c.if-not-is_same.false in
    let own = ap (slice_index c.held.inside.counts) c.desk-desk.ensures.place ∙ c.held.invariant.0.counts.counted c.seat.inside.driver c.seat.invariant.2 in
    ap by_step (sym c.in-Ok.is ∙ c.step.ensures.answer) ∙ edge_stepped c.held.inside.backplane _ c.args.edge same (sym own ∙ c.if-own-made.false) ∙ (λ i. edge_answer (c.held.view_is i).board (c.seat.view_is i) c.args.edge)

pub returns-in-Ok-clause-well_formed : goal.returns-in-Ok-clause-well_formed
returns-in-Ok-clause-well_formed g c =
    answered_is_well_formed c.held.inside.backplane c.args.edge c.in-Ok.delivery (sym c.step.ensures.answer ∙ c.in-Ok.is)
