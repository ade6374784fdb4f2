use Rattle.std.specs.Prelude.{◌≡◌, ◌≤◌, take, vec_capacity}
use Rattle.vme_lock.proofs.AllSeats.{AreSeated}
use Rattle.vme_lock.proofs.opening.Opening.seat_all.Given as goal

abbrev pub invariant-loop-driver : goal.invariant-loop-driver
invariant-loop-driver g l =
    AreSeated l.backplane (take l.driver-index l.driver-items) l.self.seats.items l.self.book.total l.self.rest.parts
    × (l.self.rest.amount ≡ 0) × (22 ≤ vec_capacity l.self.seats)
