-- A count that stays at its greatest value.
use Rattle.std.proofs.Common.{◌≡◌, ◌+◌, refl, ap, ℕ, arith}
use Rattle.std.specs.Prelude.{min, nat_lt, if◌then◌else◌}
use Rattle.vme_model.specs.declared.boards.Release.{Release}
use Rattle.vme_model.specs.declared.boards.Release.TheVariants.{Done, Request}
use Rattle.vme_model.specs.declared.conditions.Condition.TheVariants.{WithinBurst}
use Rattle.vme_model.specs.Guards.{asks}
use Rattle.vme_model.specs.Rules.{is_below_burst}
use Rattle.vme_model.specs.Rules as rules
use Rattle.vme_master.specs.Local.{most_cycles}

-- one more cycle, in such a count
pub one_more : (c most : ℕ) → (if nat_lt (min c most) most then min c most + 1 else min c most) ≡ min (1 + c) most
one_more c most = grind arith

none_more : (c most : ℕ) → nat_lt (min c most) most ≡ nat_lt c most
none_more c most = grind arith

-- the counted cycles say as much about the burst as all cycles do
pub below_burst : (c : ℕ) (release : Release) → is_below_burst (min c (most_cycles release)) release ≡ is_below_burst c release
below_burst c (Done burst) = none_more c burst
below_burst c Request = refl

-- the part of a guard that reads the counted cycles says as much as with all cycles
pub burst_guard : (c : ℕ) (release : Release) → rules.below_burst (min c (most_cycles release)) release ≡ rules.below_burst c release
burst_guard c (Done burst) = ap (λ b. asks WithinBurst b) (none_more c burst)
burst_guard c Request = refl
