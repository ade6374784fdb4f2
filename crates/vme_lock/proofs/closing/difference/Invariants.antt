use Rattle.std.specs.Prelude.{◌≡◌, ◌≤◌, take, length}
use Rattle.vme_model.specs.History.{in_order}
use Rattle.vme_lock.proofs.LogDifference.{own}
use Rattle.vme_lock.proofs.closing.difference.Given as goal

abbrev pub invariant-loop-place : goal.invariant-loop-place
invariant-loop-place l = (own l.driver (take l.place (in_order l.backplane.history)) ≡ take l.at l.log) × (l.at ≤ length l.log) × (l.at ≤ l.place)
