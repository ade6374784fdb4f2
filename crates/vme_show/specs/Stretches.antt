-- A trace under way to the end of a stretch that is shown.
use Rattle.std.specs.Prelude.{◌≡◌, ◌+◌, ◌<◌, ◌≤◌, ◌^◌, ℕ, length, Option, Some, None}
use Rattle.vme_model.specs.Verdict.{State}
use Rattle.vme_show.specs.Columns.{Seen}
use Rattle.vme_show.specs.declared.shows.Stretch.{Stretch}

-- the bus, what is shown, how many edges were judged, and what is kept of the stretch
pub record Stage : Type 0 where
  pub bus : State
  pub stretch : Stretch
  pub judged : ℕ
  pub window : Option Seen

-- a window is open from the first edge of the stretch on, with a column for each that came
pub record IsCount (from judged : ℕ) (w : Seen) : Type 0 where
  pub first_is : w.first ≡ from
  pub some : 0 < length w.columns
  pub count : from + length w.columns ≡ judged + 1

abbrev pub IsOpen : ℕ → ℕ → Option Seen → Type 0
IsOpen from judged None = judged < from
IsOpen from judged (Some w) = IsCount from judged w

-- at most 200 edges, from the first or a later one on
pub record IsStretch (s : Stretch) : Type 0 where
  pub some : 1 ≤ s.from
  pub order : s.from ≤ s.to
  pub few : s.to < s.from + 200
  pub most : s.to < 2 ^ 64

-- no edge after them was judged
pub record IsOpened (s : Stretch) (judged : ℕ) (w : Option Seen) : Type 0 where
  pub stretch : IsStretch s
  pub within : judged ≤ s.to
  pub open_at : IsOpen s.from judged w
