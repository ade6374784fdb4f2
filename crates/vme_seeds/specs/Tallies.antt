-- How many edges there are of each kind, by its number.
use Rattle.std.specs.Prelude.{◌≡◌, ◌+◌, ℕ, Bool, List, slice_index, if◌then◌else◌}
use Rattle.vme_model.specs.declared.signals.Edge.{Edge}
use Rattle.vme_seeds.specs.declared.kinds.Kind.{Kind}
use Rattle.vme_seeds.specs.Kinds.{number, is_of, count}

-- each count is the number of the edges of its kind
abbrev pub AreCounts : (ℕ → Bool) → List Edge → List ℕ → Type 0
AreCounts boards es counts = (k : Kind) → slice_index counts (number k) ≡ count boards k es

-- the counts before and after an edge is counted
abbrev pub CountsIn : (ℕ → Bool) → Edge → List ℕ → List ℕ → Type 0
CountsIn boards e old new =
    (k : Kind) → slice_index new (number k)
    ≡ (if is_of boards k e then slice_index old (number k) + 1 else slice_index old (number k))
