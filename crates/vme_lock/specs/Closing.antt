-- A history compared with the logs of its drivers.
use Rattle.std.specs.Prelude.{◌≡◌, ◌≢◌, ◌⊎◌, ℕ, ◌≤◌, Option, Some, None, List, [], ◌∷◌, length, take, slice_get, sum_by}
use Rattle.vme_model.specs.declared.signals.Driver.{Driver}
use Rattle.vme_model.specs.declared.signals.Edge.{Edge}
use Rattle.vme_model.specs.Verdict.{State, IsLegal}
use Rattle.vme_model.specs.Counts.{only}
use Rattle.vme_lock.specs.Seats.{Place, Follows}

-- the backplane began as the one that was opened, its history is legal, and has as many edges as
-- the seats made
pub record IsClosing (opened : State) (seats : List Place) (b : State) : Type 0 where
  pub follows : Follows opened b
  pub legal : IsLegal b.version b.plan b.history
  pub made : length b.history ≡ sum_by (λ s. s.made) seats

-- each driver's edges in the history are its log
abbrev pub AreLogs : List Edge → List Driver → List (List Edge) → Type 0
AreLogs h [] [] = Unit {0}
AreLogs h (d ∷ drivers) (log ∷ logs) = (only h d ≡ log) × AreLogs h drivers logs
AreLogs h _ _ = ⊥

-- two lists agree below this place, and not at it
pub record DiffersAt (xs ys : List Edge) (at : ℕ) : Type 0 where
  pub within : at ≤ length xs
  pub within_other : at ≤ length ys
  pub same : take at xs ≡ take at ys
  pub apart : slice_get xs at ≢ slice_get ys at

-- the first driver whose edges are not its log, and the first place where they differ
abbrev pub FirstDiffers : List Edge → List Driver → List (List Edge) → Driver → ℕ → Type 0
FirstDiffers h (d ∷ drivers) (log ∷ logs) driver at =
    ((d ≡ driver) × DiffersAt (only h d) log at)
    ⊎ ((only h d ≡ log) × FirstDiffers h drivers logs driver at)
FirstDiffers h _ _ driver at = ⊥

-- what is found when a history is compared with the logs: either they agree, or the first driver
-- and place at which they do not
abbrev pub IsFirstDifference : List Edge → List Driver → List (List Edge) → Option (Driver × ℕ)
    → Type 0
IsFirstDifference h drivers logs None = AreLogs h drivers logs
IsFirstDifference h drivers logs (Some found) = FirstDiffers h drivers logs found.0 found.1
