-- A list of edges that is cut into moments, and shuffled inside each.
use Rattle.std.specs.Prelude.{◌≡◌, ◌<◌, ◌≤◌, ◌∷◌, ℕ, true, false, List, [], Some, length}
use Rattle.std.specs.List.{slice_get}
use Rattle.vme_model.specs.declared.signals.Driver.{Driver}
use Rattle.vme_model.specs.declared.signals.Edge.{Edge}
use Rattle.vme_moments.specs.declared.Seen.{Seen}
use Rattle.vme_moments.specs.declared.slacks.Slacks.{Slacks}
use Rattle.vme_moments.specs.Before.{slack_of}
use Rattle.vme_moments.specs.Orders.{edges_at, has}

-- no place comes twice
abbrev pub AreDifferent : List ℕ → Type 0
AreDifferent [] = Unit {0}
AreDifferent (j ∷ places) = (has places j ≡ false) × AreDifferent places

-- what was seen at one place was seen at no later moment than at the other
abbrev pub IsNoLater : List Seen → ℕ → ℕ → Type 0
IsNoLater ms i j = (a b : Seen) → slice_get ms i ≡ Some a → slice_get ms j ≡ Some b
    → a.moment ≤ b.moment

-- along these places, of which the newest stands first, the moments do not fall
abbrev pub DoNotFall : List Seen → List ℕ → Type 0
DoNotFall ms [] = Unit {0}
DoNotFall ms (j ∷ places) = ((i : ℕ) → has places i ≡ true → IsNoLater ms i j) × DoNotFall ms places

-- The edges of a history, newest first, were seen so: each once, at some place, at moments that do
-- not fall along the history, and in any order within one moment.
pub record IsCutOf (h : List Edge) (ms : List Seen) : Type 0 where
  pub places : List ℕ
  pub different : AreDifferent places
  pub count : length places ≡ length ms
  pub within : (i : ℕ) → has places i ≡ true → i < length ms
  pub all : (i : ℕ) → i < length ms → has places i ≡ true
  pub edges : edges_at ms places ≡ h
  pub moments : DoNotFall ms places

-- no driver has less slack
abbrev pub IsWithin : Slacks → Slacks → Type 0
IsWithin x y = (d : Driver) → slack_of x d ≤ slack_of y d
