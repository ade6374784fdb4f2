-- What the edges of a trace do to `show`.
use Rattle.std.specs.Prelude.{◌≡◌, ◌⊎◌, ◌+◌, ◌-◌, ◌<◌, ◌≤◌, ℕ, Bool, false, List, [], length, take, drop, Option, Some, None, Result, Ok, Err}
use Rattle.std.specs.Io.KnownBytes.{Appends, Keeps}
use Rattle.vme_model.specs.declared.signals.Edge.{Edge}
use Rattle.vme_model.specs.Verdict.{State, kept}
use Rattle.vme_show.specs.Columns.{Seen, IsWindowOf}
use Rattle.vme_trace.specs.declared.Fault.{Fault}
use Rattle.vme_trace.specs.declared.Fault.TheVariants.{Write}
use Rattle.vme_trace.specs.Writing.{AppendsFront}
use Rattle.vme_reading.specs.declared.Status.{Status}
use Rattle.vme_following.specs.declared.following.Printed.{Printed}
use Rattle.vme_following.specs.declared.following.Printed.TheVariants.{Block, Beyond}
use Rattle.vme_show.specs.declared.shows.Stretch.{Stretch}
use Rattle.vme_show.specs.Stretches.{Stage, IsStretch}
use Rattle.vme_reading.specs.Outcomes.{status_with}
use Rattle.vme_show.specs.Showing.{picture_of}

-- ---- what came

-- a window has the edges of the stretch, and there is none before the first of them
abbrev pub IsKept : State → List Edge → ℕ → Option Seen → Type 0
IsKept b es from None = length es < from
IsKept b es from (Some w) =
    (from ≤ length es) × IsWindowOf (kept b (take (from - 1) es)) from (drop (from - 1) es) w

-- these edges came, from a bus on
pub record IsShown (b : State) (es : List Edge) (s : Stage) : Type 0 where
  pub bus : s.bus ≡ kept b es
  pub judged : s.judged ≡ length es
  pub window : IsKept b es s.stretch.from s.window

-- none did
pub record IsFresh (s : Stage) : Type 0 where
  pub stretch : IsStretch s.stretch
  pub none : IsShown s.bus [] s

-- so many more edges stand before the stretch
abbrev pub IsBefore : Stage → ℕ → Type 0
IsBefore s n = (n ≡ 0) ⊎ (s.judged + n < s.stretch.from)

-- ---- what is drawn

abbrev pub stretch_text : Stretch → State → List Edge → List ℕ
stretch_text s b es = picture_of s.color s.from s.to b es

-- the status of these edges, up to the last of the stretch
abbrev pub status_to : ℕ → State → List Edge → Status
status_to to b es = status_with (length (take to es) - length (kept b (take to es)).history)

-- at the end of the stretch, or of the trace
abbrev pub EndsStretch :
    Stretch → State → List Edge → Option (List ℕ) → Option (List ℕ) → Result Printed Fault → Type 0
EndsStretch s b es old new (Ok (Block status)) =
    (s.from ≤ length es) × Appends old new (stretch_text s b es) × (status ≡ status_to s.to b es)
EndsStretch s b es old new (Ok (Beyond n)) = (n ≡ length es) × (n < s.from) × Keeps old new
EndsStretch s b es old new (Err f) = (f ≡ Write) × AppendsFront old new (stretch_text s b es)

-- the last of the stretch came, or the end of the trace, or a fault of it before
abbrev pub IsEnd : ℕ → List Edge → Result Bool Fault → Type 0
IsEnd to es more =
    (to ≤ length es) ⊎ (more ≡ Ok false) ⊎ ((at : Fault) × (more ≡ Err at) × (length es < to))

-- What edges came to: `more` is what the read of the last of them answered.
abbrev pub Ends :
    Stretch → State → List Edge → Result Bool Fault → Option (List ℕ) → Option (List ℕ)
    → Stage → Result (Option Printed) Fault → Type 0
Ends s b es more old new now (Ok None) = Keeps old new × (length es < s.to) × IsShown b es now
Ends s b es more old new now (Ok (Some (Block status))) =
    (s.from ≤ length es) × ((s.to ≤ length es) ⊎ (more ≡ Ok false))
    × Appends old new (stretch_text s b es) × (status ≡ status_to s.to b es)
Ends s b es more old new now (Ok (Some (Beyond n))) =
    (more ≡ Ok false) × (n ≡ length es) × (n < s.from) × Keeps old new
Ends s b es more old new now (Err f) =
    ((more ≡ Err f) × (length es < s.to) × Appends old new (stretch_text s b es))
    ⊎ ((f ≡ Write) × IsEnd s.to es more × AppendsFront old new (stretch_text s b es))
