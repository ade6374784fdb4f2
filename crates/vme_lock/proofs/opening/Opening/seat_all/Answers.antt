use Rattle.std.proofs.Common.{◌≡◌, ◌<◌, arith, ap, ◌∙◌, refl, length, slice_index_or}
use Rattle.std.specs.Prelude.{slice_index}
use Rattle.vme_model.specs.declared.signals.Driver.TheVariants.{Controller}
use Rattle.vme_model.specs.Plan.{drivers}
use Rattle.vme_model.specs.Counts.{count}
use Rattle.vme_lock.proofs.AllSeats.{seated_none, seated_more, seated_all, all_counted, driver_sits}
use Rattle.vme_lock.proofs.opening.Opening.seat_all.Goals as goal

pub desk-requires : goal.desk-requires
desk-requires g c =
    let b = c.args.backplane.now in
    let is = c.as_slice-driver-items.ensures.value ∙ c.drivers-all.ensures ∙ ap drivers c.plan.ensures in
    driver_sits b.plan c.as_slice-driver-items.result.now c.loop-driver.driver-index _ c.laws.ensures.accepted is (omega arith) refl

pub seat-requires-clause-driver : goal.seat-requires-clause-driver
seat-requires-clause-driver g c =
    let b = c.args.backplane.now in
    let is = c.as_slice-driver-items.ensures.value ∙ c.drivers-all.ensures ∙ ap drivers c.plan.ensures in
    driver_sits b.plan c.as_slice-driver-items.result.now c.loop-driver.driver-index _ c.laws.ensures.accepted is (omega arith) refl

pub loop-driver-init : goal.loop-driver-init
loop-driver-init g c =
    let empty = c.requires.empty in
    (seated_none c.args.backplane.now c.args.self.now.seats.items c.args.self.now.book.total c.args.self.now.rest.parts empty.0 empty.2 c.requires.rest.0, c.requires.rest.1, empty.1)

pub loop-driver-preserved : goal.loop-driver-preserved
loop-driver-preserved g c =
    let before = c.loop-driver.invariant in
    let b = c.args.backplane.now in
    let n = c.loop-driver.driver-index in
    let ds = c.as_slice-driver-items.result.now in
    let d = slice_index_or ds n Controller in
    let within : n < length ds = omega arith in
    let is = c.as_slice-driver-items.ensures.value ∙ c.drivers-all.ensures ∙ ap drivers c.plan.ensures in
    let sits = driver_sits b.plan ds n d c.laws.ensures.accepted is within refl in
    let counted : slice_index c.args.counts.now c.desk.result ≡ count b.history d = ap (slice_index c.args.counts.now) c.desk.ensures.place ∙ c.requires.counts.counted d sits in
    let held = c.loop-driver.self in
    let after = c.seat.new.self in
    let seat = c.seat.ensures in
    let more = seated_more b ds n d held.seats.items after.seats.items _ held.book.total after.book.total after.rest.parts held.rest.parts within refl before.0 in
    (more seat.seats counted seat.total seat.rest.0, seat.rest.1, omega (arith, seat.room, before.2))

pub returns-clause-total : goal.returns-clause-total
returns-clause-total g c =
    let b = c.args.backplane.now in
    let known = c.laws.ensures in
    let held = c.loop-driver.self in
    let n = c.loop-driver.driver-index in
    let ds = c.as_slice-driver-items.result.now in
    let whole : n ≡ length ds = omega arith in
    let is = c.as_slice-driver-items.ensures.value ∙ c.drivers-all.ensures ∙ ap drivers c.plan.ensures in
    (seated_all b ds n held.seats.items held.book.total held.rest.parts c.loop-driver.invariant.0 whole is).summed ∙ all_counted b.version b.plan b.history known.accepted known.legal
