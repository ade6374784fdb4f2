-- Sets of places of a sample.
use Rattle.std.specs.Prelude.{◌≡◌, ◌<◌, ◌==◌, ◌+◌, ◌-◌, ◌^◌, ℕ, Bool, true, false}
use Rattle.std.specs.Int.{bit_at}
use Rattle.vme_samples.specs.declared.places.Places.{Places}

-- the place is in the set
abbrev pub has_place : Places → ℕ → Bool
has_place set i = bit_at set.bits i == 1

-- the set without a place that is in it
abbrev pub without : Places → ℕ → Places
without set i = record { bits = set.bits - 2 ^ i }

-- the set with a place that is not in it
abbrev pub with : Places → ℕ → Places
with set i = record { bits = set.bits + 2 ^ i }

-- the first place that is in one of the two alone is in the first
pub record IsBefore (a b : Places) : Type 0 where
  pub place : ℕ
  pub near : place < 12
  pub here : has_place a place ≡ true
  pub missing : has_place b place ≡ false
  pub same : (j : ℕ) → j < place → has_place a j ≡ has_place b j
