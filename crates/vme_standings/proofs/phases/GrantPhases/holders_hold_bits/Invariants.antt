use Rattle.vme_standings.proofs.PhaseBits.{HoldBitsBelow}
use Rattle.vme_standings.proofs.phases.GrantPhases.holders_hold_bits.Given as goal

abbrev pub invariant-loop-board : goal.invariant-loop-board
invariant-loop-board l = HoldBitsBelow l.self.held l.board
