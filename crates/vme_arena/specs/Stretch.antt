-- Stretches of a region, and the blocks in them. Places are counts of bytes from the start of an
-- object.
use Rattle.std.specs.Prelude.{◌≡◌, ℕ, ◌+◌, ◌%◌, ◌^◌, ◌<◌, ◌≤◌, max, List, [], ◌∷◌, All, AllPairs}
use Rattle.std.specs.Int.{next_multiple_of}
use denote.RawPtr.{Ptr, block_ptr}

-- the bytes of an object from start up to end
pub record Stretch : Type 0 where
  pub block : ℕ
  pub start : ℕ
  pub end : ℕ

-- n rounded up to a multiple of 16
abbrev pub rounded : ℕ → ℕ
rounded n = next_multiple_of n 16

-- the bytes of a block for n bytes; a block without bytes takes a granule too
abbrev pub block_size : ℕ → ℕ
block_size n = rounded (max n 1)

-- the first n bytes of a stretch
abbrev pub front : ℕ → Stretch → Stretch
front n s = record { block = s.block; start = s.start; end = s.start + n }

-- the bytes of a stretch after its first n
abbrev pub behind : ℕ → Stretch → Stretch
behind n s = record { block = s.block; start = s.start + n; end = s.end }

-- a size that the block of a region may have
abbrev pub IsBlockSize : ℕ → Type 0
IsBlockSize n = (n % 16 ≡ 0) × (n < 2 ^ 63)

-- p is the place `at` of the object, and n bytes from there are whole units of 16
abbrev pub LiesAt : ℕ → ℕ → ℕ → Ptr → Type 0
LiesAt block at n p = (p ≡ block_ptr block at) × (at + n < 2 ^ 63) × (n % 16 ≡ 0)

-- the n bytes from p on lie in the stretch, and begin at a multiple of 16
abbrev pub LiesIn : Stretch → ℕ → ℕ → Ptr → Type 0
LiesIn s at n p = LiesAt s.block at n p × (s.start ≤ at) × (at + n ≤ s.end) × (at % 16 ≡ 0)

-- s is a part of t, and begins and ends at multiples of 16
abbrev pub IsPart : Stretch → Stretch → Type 0
IsPart t s = (s.block ≡ t.block) × (t.start ≤ s.start) × (s.start ≤ s.end) × (s.end ≤ t.end)
    × (s.start % 16 ≡ 0) × (s.end % 16 ≡ 0)

-- s ends before t begins, so they have no byte in common
abbrev pub IsBefore : Stretch → Stretch → Type 0
IsBefore s t = s.end ≤ t.start

-- the sum of the sizes, each rounded up to a multiple of 16
abbrev pub total : List ℕ → ℕ
total [] = 0
total (n ∷ ns) = rounded n + total ns

-- the stretches that are carved from a rest for each of the sizes, one after another
abbrev pub carved : Stretch → List ℕ → List Stretch
carved s [] = []
carved s (n ∷ ns) = front (rounded n) s ∷ carved (behind (rounded n) s) ns

-- whatever is carved from a rest is a part of that rest
abbrev pub CarvedWithin : Type 0
CarvedWithin = (s : Stretch) (ns : List ℕ) → s.start % 16 ≡ 0 → s.start + total ns ≤ s.end
    → All (IsPart s) (carved s ns)

-- no two of the carved stretches overlap
abbrev pub CarvedApart : Type 0
CarvedApart = (s : Stretch) (ns : List ℕ) → AllPairs IsBefore (carved s ns)
