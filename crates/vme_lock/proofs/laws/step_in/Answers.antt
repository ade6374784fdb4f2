use Rattle.std.proofs.Common.{ap, arith}
use Rattle.std.specs.Prelude.{slice_index}
use Rattle.vme_lock.specs.Seats.{Keeping}
use Rattle.vme_lock.proofs.DeskCounts.{at_most}
use Rattle.vme_lock.proofs.HoldAnswers.{own_within}
use Rattle.vme_lock.proofs.OneHold.{stepped, held_after, own_inside}
use Rattle.vme_lock.proofs.laws.step_in.Goals as goal

pub overflow_add-counts : goal.overflow_add-counts
overflow_add-counts g c =
    let most = at_most c.held.inside.counts c.held.inside.backplane.history c.seat.inside.driver c.held.invariant.0.counts c.seat.invariant.2 in
    omega (arith, most, ap (slice_index c.held.inside.counts) c.desk-desk.ensures.place, c.laws.ensures.fits, c.laws.ensures.bounded)

pub overflow_add-made : goal.overflow_add-made
overflow_add-made g c =
    let own = own_inside c.args.edge c.held.view_is c.seat.view_is c.requires in
    omega (arith, own.made, own_within c.held.inside.backplane c.seat.inside.driver, c.laws.ensures.fits, c.laws.ensures.bounded)

pub invariant_of-held-in-Ok : goal.invariant_of-held-in-Ok
invariant_of-held-in-Ok g c =
    let own = own_inside c.args.edge c.held.view_is c.seat.view_is c.requires in
    let k : Keeping = record { board = c.held.inside.backplane; counts = c.held.inside.counts; total = c.held.inside.book.total } in
    let made = stepped c.held.inside.backplane c.step.new.self c.args.edge c.step.result c.in-Ok.delivery c.in-Ok.is c.step.ensures.accepted c.step.ensures.state in
    let d = c.seat.inside.driver in
    let after = held_after g.L.Rig.opened k c.args.edge d c.step.new.self c.desk-desk.result c.add.new.self.total c.held.invariant.0 c.seat.invariant.2 in
    (after own.driver made c.desk-desk.ensures.place c.add.ensures.total, c.held.invariant.1, c.held.invariant.2)
