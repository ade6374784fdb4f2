use Rattle.std.specs.Prelude.{length}
use Rattle.vme_lock.proofs.following.+are_whole.Given as goal

abbrev pub decreases-are_whole : goal.decreases-are_whole
decreases-are_whole g l = length l.seats.now
