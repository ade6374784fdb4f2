use Rattle.vme_standings.proofs.PhaseBits.{HoldBitsBelow}
use Rattle.vme_standings.proofs.phases.GrantPhases.grants_hold_bits.Given as goal

abbrev pub invariant-loop-level : goal.invariant-loop-level
invariant-loop-level l = HoldBitsBelow l.self.granting l.level
