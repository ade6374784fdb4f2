use Rattle.std.proofs.Common.{◌≡◌, ◌+◌, ◌-◌, ◌*◌, ◌<◌, ◌≤◌}
use Rattle.vme_arena.proofs.loan.Loan.find.Given as goal

abbrev pub invariant-loop-high : goal.invariant-loop-high
invariant-loop-high l =
    (l.loan ≡ l.fn.self) × (l.piece ≡ l.fn.piece) × ((l.low < l.high) × (l.high ≤ l.count)) × ((l.fn.self.spot.at + l.low * 16 ≤ l.fn.piece.at) × (l.fn.piece.at < l.fn.self.spot.at + l.high * 16))

abbrev pub decreases-loop-high : goal.decreases-loop-high
decreases-loop-high l = l.high - l.low
