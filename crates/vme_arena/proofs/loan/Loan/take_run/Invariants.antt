use Rattle.std.proofs.Common.{◌≡◌, ◌+◌, ◌-◌, ◌*◌, ◌<◌, ◌≤◌}
use Rattle.vme_arena.proofs.loan.Loan.take_run.Given as goal

abbrev pub invariant-loop-taken : goal.invariant-loop-taken
invariant-loop-taken l =
    (l.loan ≡ l.fn.self) × ((l.run.block ≡ l.fn.self.spot.block) × (l.run.at ≡ l.fn.self.spot.at + l.place * 16) × (l.run.size ≡ l.taken * 16)) × ((0 < l.taken) × (l.taken ≤ l.count))

abbrev pub decreases-loop-taken : goal.decreases-loop-taken
decreases-loop-taken l = l.count - l.taken
