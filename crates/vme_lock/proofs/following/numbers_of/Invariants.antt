use Rattle.std.specs.Prelude.{◌≡◌, length}
use Rattle.vme_lock.specs.Seats.{drivers_of}
use Rattle.vme_lock.proofs.OnePass.{AreNumberedBelow}
use Rattle.vme_lock.proofs.following.numbers_of.Given as goal

abbrev pub invariant-loop-number : goal.invariant-loop-number
invariant-loop-number g l = (length l.numbers ≡ 22) × AreNumberedBelow l.numbers (drivers_of l.seats) l.number
