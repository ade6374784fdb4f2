-- Beginnings, each by its last step.
use Rattle.std.specs.Prelude.{◌≡◌, ◌<◌, ◌∷◌, ℕ, List, [], Some, length}
use Rattle.std.specs.List.{slice_get}
use Rattle.vme_order_search.specs.declared.trails.Step.{Step}
use Rattle.vme_order_search.specs.declared.trails.Trail.{Trail}

-- each step but the first goes on from an earlier one
pub record IsTrail (t : Trail) : Type 0 where
  pub some : 0 < length t.steps.items
  pub back : (at : ℕ) (s : Step) → slice_get t.steps.items at ≡ Some s → 0 < at → s.front < at

-- the list of places, newest first, ends with that step
abbrev pub Ends : Trail → ℕ → List ℕ → Type 0
Ends t at [] = at ≡ 0
Ends t at (j ∷ path) = (s : Step) × (slice_get t.steps.items at ≡ Some s) × (s.place ≡ j) × (0 < at)
    × Ends t s.front path
