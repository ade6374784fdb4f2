-- Which segments of the grant chains are low in a phase. A segment is named by the slot of the
-- board that drives it, and 0 names the controller's.
use Rattle.std.specs.Prelude.{◌==◌, ◌&&◌, ◌||◌, ℕ, Bool, false, nat_le, nat_lt}
use Rattle.vme_model.specs.Plan.{Plan}
use Rattle.vme_standings.specs.declared.phases.GrantPhase.{GrantPhase}
use Rattle.vme_standings.specs.declared.phases.GrantPhase.TheVariants.{Idle, Granting, Held, Expired}
use Rattle.vme_standings.specs.GrantChains.{is_of_level}

-- the chain of the level has such a segment
abbrev pub is_segment : Plan → ℕ → ℕ → Bool
is_segment p c s = s == 0 || is_of_level p c s

-- the low segments of the phase are of that chain, and the place is between the first and the last
abbrev pub is_in_run : Plan → ℕ → ℕ → GrantPhase → Bool
is_in_run p c s (Idle n) = false
is_in_run p c s (Granting n last) = n == c && nat_le s last
is_in_run p c s (Held b first) = is_of_level p c b && (nat_le first s && nat_lt s b)
is_in_run p c s (Expired n first) = n == c && nat_le first s

-- the segment of the level's chain is low in the phase
abbrev pub is_low_in : Plan → ℕ → ℕ → GrantPhase → Bool
is_low_in p c s q = is_segment p c s && is_in_run p c s q
