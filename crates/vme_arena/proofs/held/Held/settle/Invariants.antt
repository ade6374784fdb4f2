use Rattle.std.proofs.Common.{◌≡◌, ◌≤◌}
use Rattle.vme_arena.proofs.held.Held.settle.Given as goal

abbrev pub invariant-loop-next : goal.invariant-loop-next
invariant-loop-next l = (l.loan ≡ l.fn.self.loan) × (l.next ≤ l.count)

abbrev pub decreases-loop-next : goal.decreases-loop-next
decreases-loop-next l = l.next
