use Rattle.std.proofs.Common.{◌≡◌, ℕ, ◌≤◌, ◌<◌}
use Rattle.std.specs.Prelude.{None, find}
use Rattle.vme_model.specs.Accepted.{chains, is_broken}
use Rattle.vme_slots.proofs.faults.Draft.chain_broken.Given as goal

abbrev pub invariant-loop-slot : goal.invariant-loop-slot
invariant-loop-slot l = (k : ℕ) → 1 ≤ k → k < l.slot → find (is_broken l.self k) chains ≡ None
