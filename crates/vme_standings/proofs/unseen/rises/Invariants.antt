use Rattle.std.proofs.Common.{◌≡◌, ℕ}
use Rattle.std.specs.Prelude.{◌&&◌, nat_lt}
use Rattle.vme_bus.specs.Sets.{has}
use Rattle.vme_standings.specs.Unseen.{rises_unseen}
use Rattle.vme_standings.proofs.unseen.rises.Given as goal

abbrev pub invariant-loop-slot : goal.invariant-loop-slot
invariant-loop-slot l = (s : ℕ) → has l.found s ≡ (nat_lt s l.slot && rises_unseen l.plan l.probed l.level s)
