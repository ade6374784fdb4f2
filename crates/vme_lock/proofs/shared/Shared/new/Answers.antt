use Rattle.std.proofs.Common.{◌≡◌, ◌+◌, [], sym, ap, ◌∙◌, subst, length}
use Rattle.vme_model.specs.Plan.{drivers}
use Rattle.vme_model.specs.Verdict.{State}
use Rattle.vme_lock.specs.Seats.{drivers_of}
use Rattle.vme_lock.proofs.AllSeats.{drivers-seats_of}
use Rattle.vme_lock.proofs.shared.Shared.new.Goals as goal

pub invariant_of-held : goal.invariant_of-held
invariant_of-held g c =
    let seated = c.seat_all.ensures in
    let parts = c.seat_all.new.self.rest.parts in (
      record { follows = ([], sym c.requires.opened); counts = c.counts_of-counts.ensures; booked = seated.total },
      seated.rest.1,
      subst (λ (b : State). parts + length (drivers b.plan) ≡ 22) (sym c.requires.opened) seated.rest.0,
    )

pub returns-clause-drivers : goal.returns-clause-drivers
returns-clause-drivers g c = ap drivers_of c.seat_all.ensures.seats ∙ drivers-seats_of c.args.backplane (drivers c.args.backplane.plan)
