-- Places that were taken.
use Rattle.std.specs.Prelude.{◌≡◌, ◌<◌, ◌≤◌, ◌⊎◌, ℕ, Bool, true, false, List, length, slice_index_or, Option, Some, None}
use Rattle.vme_moments.specs.declared.Seen.{Seen}
use Rattle.vme_moments.specs.declared.slacks.Slacks.{Slacks}
use Rattle.vme_moments.specs.Orders.{IsFree, has}
use Rattle.vme_order.specs.declared.taken.Taken.{Taken}

-- the place was taken
abbrev pub holds : Taken → ℕ → Bool
holds t i = slice_index_or t.flags.items i false

-- the least that was not taken is the least
pub record IsCounted (t : Taken) : Type 0 where
  pub within : t.least ≤ length t.flags.items
  pub below : (i : ℕ) → i < t.least → holds t i ≡ true
  pub least : t.least < length t.flags.items → holds t t.least ≡ false

-- just these places of what was seen were taken
pub record AreTaken (ms : List Seen) (places : List ℕ) (t : Taken) : Type 0 where
  pub counted : IsCounted t
  pub room : length t.flags.items ≡ length ms
  pub same : (i : ℕ) → holds t i ≡ has places i

-- no place from the first on, and below the end, can come next
abbrev pub AreUnfree : Slacks → List Seen → List ℕ → ℕ → ℕ → Type 0
AreUnfree x ms places from end = (j : ℕ) → from ≤ j → j < end → IsFree x ms places j → ⊥

-- the least place from that one on that can come next, if there is any
abbrev pub IsNextFree : Slacks → List Seen → List ℕ → ℕ → Option ℕ → Type 0
IsNextFree x ms places from None = AreUnfree x ms places from (length ms)
IsNextFree x ms places from (Some place) =
    (from ≤ place) × IsFree x ms places place × AreUnfree x ms places from place
