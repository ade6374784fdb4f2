-- Sets of places.
use Rattle.std.specs.Prelude.{◌≡◌, ◌==◌, ◌||◌, ◌&&◌, ◌+◌, ◌-◌, ◌*◌, ◌/◌, ◌%◌, ◌^◌, ◌<◌, ◌≤◌, ℕ, Bool, false, List, length, nat_lt, Option, Some, None}
use Rattle.std.specs.Int.{bit_at}
use Rattle.vme_moments.specs.declared.Seen.{Seen}
use Rattle.vme_moments.specs.declared.slacks.Slacks.{Slacks}
use Rattle.std.specs.List.{slice_get}
use Rattle.std.specs.Option.{option_map_or}
use Rattle.vme_moments.specs.Before.{is_timely}
use Rattle.vme_moments.specs.Orders.{IsFree, has}
use Rattle.vme_order_search.specs.declared.taken.Taken.{Taken}

-- places, and steps of a trail, are numbers of 32 bits
abbrev pub number_limit : ℕ
number_limit = 4294967296

-- how many buckets of sets there are
abbrev pub bucket_count : ℕ
bucket_count = 65536

-- the place is in the set
abbrev pub holds : Taken → ℕ → Bool
holds t i = nat_lt i t.least || (nat_lt t.least i && (bit_at t.behind (i - t.least - 1) == 1))

-- none of its places is greater by 128 or more than the least that is missing
abbrev pub IsNarrow : Taken → Type 0
IsNarrow t = t.behind < 2 ^ 127

-- some number that equal sets share
unfoldable pub bucket_of : Taken → ℕ
bucket_of t =
    ((t.behind % 2 ^ 64 + t.behind / 2 ^ 64) % 2 ^ 64 * 11400714819323198485) % 2 ^ 64 / 2 ^ 48

-- just these places are in the set
abbrev pub AreTaken : List ℕ → Taken → Type 0
AreTaken places t = (i : ℕ) → holds t i ≡ has places i

-- the least place that is missing lies before that one, and a slack of so much does not reach back
-- to it from there
abbrev pub is_far : List Seen → ℕ → ℕ → ℕ → Bool
is_far ms reach least place =
    nat_lt least place
    && option_map_or (λ a. option_map_or (λ b. is_timely a.moment reach b.moment)
    (slice_get ms place) false)
    (slice_get ms least) false

-- no place from the first on, and below the end, can come next
abbrev pub AreUnfree : Slacks → List Seen → List ℕ → ℕ → ℕ → Type 0
AreUnfree x ms places from end = (j : ℕ) → from ≤ j → j < end → IsFree x ms places j → ⊥

-- the least place from that one on that can come next, if there is any
abbrev pub IsNextFree : Slacks → List Seen → List ℕ → ℕ → Option ℕ → Type 0
IsNextFree x ms places from None = AreUnfree x ms places from (length ms)
IsNextFree x ms places from (Some place) =
    (from ≤ place) × IsFree x ms places place × AreUnfree x ms places from place
