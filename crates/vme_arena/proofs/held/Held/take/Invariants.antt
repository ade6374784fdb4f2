use Rattle.std.proofs.Common.{◌≡◌, ◌-◌, ◌≤◌}
use Rattle.vme_arena.proofs.held.Held.take.Given as goal

abbrev pub invariant-loop-place : goal.invariant-loop-place
invariant-loop-place l = (l.loan ≡ l.fn.self.loan) × (l.place ≤ l.count)

abbrev pub decreases-loop-place : goal.decreases-loop-place
decreases-loop-place l = l.count - l.place
