use Rattle.std.proofs.Common.{◌≡◌, ◌+◌, ◌*◌}
use Rattle.vme_arena.proofs.loan.Loan.put_run.Given as goal

abbrev pub invariant-loop-i : goal.invariant-loop-i
invariant-loop-i l =
    (l.loan ≡ l.fn.self) × (l.piece.block ≡ l.fn.self.spot.block) × (l.piece.at ≡ l.fn.self.spot.at + (l.place + l.i) * 16) × (l.piece.size + l.i * 16 ≡ l.count * 16)
