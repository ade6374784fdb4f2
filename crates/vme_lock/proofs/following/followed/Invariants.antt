use Rattle.std.specs.Prelude.{◌≡◌, length, take}
use Rattle.vme_model.specs.History.{in_order}
use Rattle.vme_lock.specs.Following.{AreFronts}
use Rattle.vme_lock.proofs.following.followed.Given as goal

abbrev pub invariant-loop-place : goal.invariant-loop-place
invariant-loop-place l = (length l.ends ≡ 22) × AreFronts (take l.place (in_order l.backplane.history)) l.numbers l.logs l.ends
