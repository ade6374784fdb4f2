use Rattle.std.specs.Prelude.{take}
use Rattle.vme_model.specs.History.{in_order}
use Rattle.vme_lock.specs.Seats.{AreCounts}
use Rattle.vme_lock.proofs.opening.counts_of.Given as goal

abbrev pub invariant-loop-place : goal.invariant-loop-place
invariant-loop-place l = AreCounts l.counts (take l.place (in_order l.backplane.history))
