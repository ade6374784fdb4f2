use Rattle.std.proofs.Common.{◌≡◌, ◌<◌, ℕ, false}
use Rattle.std.specs.Prelude.{◌==◌}
use Rattle.vme_bus.specs.Sets.{has}
use Rattle.vme_standings.proofs.grants.has_other.Given as goal

abbrev pub invariant-loop-other : goal.invariant-loop-other
invariant-loop-other l = (s : ℕ) → s < l.other → (s == l.slot) ≡ false → has l.slots s ≡ false
