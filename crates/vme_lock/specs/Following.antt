-- One pass over a history that follows all logs at once. A driver's desk holds the number of its
-- log, and how far the log has been followed.
use Rattle.std.specs.Prelude.{◌≡◌, ℕ, ◌≤◌, true, Some, List, [], ◌∷◌, length, take, filter, slice_get, slice_index}
use Rattle.vme_model.specs.declared.signals.Driver.{Driver}
use Rattle.vme_model.specs.declared.signals.Edge.{Edge}
use Rattle.vme_model.specs.Signals.{is_same_driver}
use Rattle.vme_lock.specs.Seats.{can_sit, desk}

-- the driver can sit, and its desk holds the number
pub record HasNumber (numbers : List ℕ) (d : Driver) (n : ℕ) : Type 0 where
  pub sits : can_sit d ≡ true
  pub number : slice_index numbers (desk d) ≡ n

-- each driver's number is its place among them
abbrev pub AreNumbered : List ℕ → List Driver → Type 0
AreNumbered numbers drivers =
    (k : ℕ) → (d : Driver) → slice_get drivers k ≡ Some d → HasNumber numbers d k

-- these edges are the first ones of the log, and their number is `at`
pub record IsFront (edges log : List Edge) (at : ℕ) : Type 0 where
  pub within : at ≤ length log
  pub same : edges ≡ take at log

-- among these edges, in the order of time, those of each driver are the first ones of the log that
-- has its number
abbrev pub AreFronts : List Edge → List ℕ → List (List Edge) → List ℕ → Type 0
AreFronts edges numbers logs ends =
    (d : Driver) → (log : List Edge) → can_sit d ≡ true
    → slice_get logs (slice_index numbers (desk d)) ≡ Some log
    → IsFront (filter (λ e. is_same_driver e.driver d) edges) log (slice_index ends (desk d))

-- each driver's log is followed to its end
abbrev pub AreWhole : List Driver → List (List Edge) → List ℕ → Type 0
AreWhole [] [] ends = Unit {0}
AreWhole (d ∷ drivers) (log ∷ logs) ends =
    (slice_index ends (desk d) ≡ length log) × AreWhole drivers logs ends
AreWhole _ _ ends = ⊥
