-- What the parts of a judgement do: a change, the end, and what an entry says.
use Rattle.std.specs.Prelude.{◌≡◌, ◌⊎◌, ◌<◌, ◌++◌, ◌∷◌, [], ℕ, true, false, List, Option, Some, None, length, Result, Ok, Err}
use Rattle.std.specs.Io.KnownBytes.{Appends, Keeps}
use Rattle.vme_model.specs.declared.signals.Version.{Version}
use Rattle.vme_model.specs.Plan.{Plan}
use Rattle.vme_trace.specs.declared.Fault.{Fault}
use Rattle.vme_trace.specs.declared.Fault.TheVariants.{Write}
use Rattle.vme_trace.specs.Writing.{AppendsFront}
use Rattle.vme_captures.specs.declared.reader.Probe.{Probe}
use Rattle.vme_captures.specs.declared.signals.Change.{Change}
use Rattle.vme_captures.specs.declared.signals.Entry.{Entry}
use Rattle.vme_captures.specs.declared.signals.Entry.TheVariants as entry
use Rattle.vme_standings.specs.declared.standings.Drivers.{Drivers}
use Rattle.vme_reading.specs.declared.Status.{Status}
use Rattle.vme_reading.specs.declared.EngineFault.TheVariants as engine
use Rattle.vme_reading.specs.declared.Status.TheVariants.{Done, SomeRefused, Limit}
use Rattle.vme_samples.specs.declared.samples.SeenChange.{SeenChange}
use Rattle.vme_samples.specs.Samples.{joins}
use Rattle.vme_samples.specs.Ways.{AreWays, Gathered, Known as Ways}
use Rattle.vme_probe.specs.declared.judging.Known.{Known}
use Rattle.vme_probe.specs.declared.probes.ProbeFault.{ProbeFault}
use Rattle.vme_probe.specs.declared.probes.ProbeFault.TheVariants as fault
use Rattle.vme_probe.specs.Knowing.{Begins, CannotBegin, Ends, Follows, HasLines, IsOverfull, IsStoppedAtEnd, IsUnbegun, IsWhole, Judged, Stops, StopsAt, StopsSample, TakesSample, Waits, no_beginning}
use Rattle.vme_probe.specs.Lines.{change_line}
use Rattle.vme_probe.specs.Sampled.{CannotSample, Samples, all_places}

-- what is to be written of a change
abbrev pub IsOfChange : Plan → Known → ℕ → Change → List ℕ → Type 0
IsOfChange p old m c text =
    ((k : Known) × (d : Drivers) × Follows p old c d k × (text ≡ change_line m c d))
    ⊎ Stops p old m c text

-- a change was judged, and written
abbrev pub ChangeTaken :
    Plan → ℕ → Change → Known → Known → Option (List ℕ) → Option (List ℕ)
    → Result (Option Status) Fault → Type 0
ChangeTaken p m c old new from to (Ok None) =
    (d : Drivers) × Follows p old c d new × Appends from to (change_line m c d)
ChangeTaken p m c old new from to (Ok (Some status)) =
    (text : List ℕ) × Stops p old m c text × Appends from to text × (status ≡ SomeRefused)
ChangeTaken p m c old new from to (Err f) =
    (f ≡ Write) × (text : List ℕ) × IsOfChange p old m c text × AppendsFront from to text

-- a sample of several changes was judged, and written
abbrev pub SeveralTaken :
    Plan → List SeenChange → Known → Known → Option (List ℕ) → Option (List ℕ)
    → Result (Option Status) Fault → Type 0
SeveralTaken p sample old new from to (Ok None) =
    (text : List ℕ) × Samples p old sample new text × Appends from to text
SeveralTaken p sample old new from to (Ok (Some status)) =
    (text : List ℕ) × CannotSample p old sample text × Appends from to text
    × (status ≡ SomeRefused)
SeveralTaken p sample old new from to (Err f) =
    (f ≡ Write) × (text : List ℕ)
    × (((k : Known) × Samples p old sample k text) ⊎ CannotSample p old sample text)
    × AppendsFront from to text

-- that is written of a sample of which no order is possible, if that is known behind its sets
abbrev pub IsOfStopped : Plan → Known → List SeenChange → Ways → List ℕ → Type 0
IsOfStopped p old sample ways text =
    AreWays p old.probed old.standings sample ways
    → Gathered p old.probed sample ways (all_places sample) (length sample) None
    → CannotSample p old sample text

-- what is to be written of a sample
abbrev pub IsOfSample : Plan → Known → List SeenChange → List ℕ → Type 0
IsOfSample p old sample text =
    ((k : Known) × TakesSample p old sample k text) ⊎ StopsSample p old sample text

-- a sample was judged, and written
abbrev pub SampleTaken :
    Plan → List SeenChange → Known → Known → Option (List ℕ) → Option (List ℕ)
    → Result (Option Status) Fault → Type 0
SampleTaken p sample old new from to (Ok None) =
    (text : List ℕ) × TakesSample p old sample new text × Appends from to text
SampleTaken p sample old new from to (Ok (Some status)) =
    (text : List ℕ) × StopsSample p old sample text × Appends from to text
    × (status ≡ SomeRefused)
SampleTaken p sample old new from to (Err f) =
    (f ≡ Write) × (text : List ℕ) × IsOfSample p old sample text × AppendsFront from to text

-- the end was written
abbrev pub EndWritten :
    Plan → Known → List Probe → Option (List ℕ) → Option (List ℕ) → Result Status Fault → Type 0
EndWritten p k probes from to (Ok status) =
    (text : List ℕ) × Ends p k probes text × Appends from to text × (status ≡ Done)
EndWritten p k probes from to (Err f) =
    (f ≡ Write) × (text : List ℕ) × Ends p k probes text × AppendsFront from to text

-- a change was taken into the sample, unless that is full
abbrev pub Pushed :
    SeenChange → List SeenChange → List SeenChange → Result (Option Status) ProbeFault → Type 0
Pushed s old new (Ok None) = (length old < 12) × (new ≡ old ++ s ∷ [])
Pushed s old new (Err fault.TooManyOrders) = length old ≡ 12
Pushed s old new _ = ⊥

-- what is to be written of the sample that a change completes
abbrev pub IsOfCompleted : Plan → ℕ → List SeenChange → SeenChange → Known → List ℕ → Type 0
IsOfCompleted p skew waiting s old text =
    (joins skew waiting s.moment ≡ false) × IsOfSample p old waiting text

-- a change was taken in with `--skew`, and it waits; the sample before it was judged and written,
-- if it is complete
abbrev pub SeenTaken :
    Plan → ℕ → List SeenChange → SeenChange → Known → Known → List SeenChange
    → Option (List ℕ) → Option (List ℕ) → Result (Option Status) ProbeFault → Type 0
SeenTaken p skew waiting s old new waits from to (Ok None) =
    (lines : List ℕ) × ((before : List ℕ)
    → Waits p skew before old waiting s new waits (before ++ lines)) × Appends from to lines
SeenTaken p skew waiting s old new waits from to (Ok (Some status)) =
    (joins skew waiting s.moment ≡ false) × (text : List ℕ) × StopsSample p old waiting text
    × Appends from to text × (status ≡ SomeRefused)
SeenTaken p skew waiting s old new waits from to (Err fault.TooManyOrders) =
    (joins skew waiting s.moment ≡ true) × (length waiting ≡ 12) × Keeps from to
SeenTaken p skew waiting s old new waits from to (Err (fault.Engine (engine.Trace f))) =
    (f ≡ Write) × (text : List ℕ) × IsOfCompleted p skew waiting s old text
    × AppendsFront from to text
SeenTaken p skew waiting s old new waits from to (Err _) = ⊥

-- a change was taken in, with `--skew` or without it
abbrev pub NextTaken :
    Plan → Option ℕ → List SeenChange → SeenChange → Known → Known → List SeenChange
    → Option (List ℕ) → Option (List ℕ) → Result (Option Status) ProbeFault → Type 0
NextTaken p None waiting s old new waits from to (Ok answer) =
    (waits ≡ []) × ChangeTaken p s.moment s.change old new from to (Ok answer)
NextTaken p None waiting s old new waits from to (Err (fault.Engine (engine.Trace f))) =
    ChangeTaken p s.moment s.change old new from to (Err f)
NextTaken p None waiting s old new waits from to (Err _) = ⊥
NextTaken p (Some skew) waiting s old new waits from to answer =
    SeenTaken p skew waiting s old new waits from to answer

-- what is known and written behind what was said, what waits, and the output since its beginning
pub record Stands (p : Plan) (skew : Option ℕ) (version : Version) (said : List Entry)
    (known : Option Known) (waits : List SeenChange) (from to : Option (List ℕ)) : Type 0 where
  pub text : List ℕ
  pub judged : Judged p version skew said known waits text
  pub wrote : Appends from to text

-- the head has ended
abbrev pub HeadEnded :
    Plan → Version → List Entry → Option (List ℕ) → Option (List ℕ)
    → Result (Option Known) Fault → Type 0
HeadEnded p version said from to (Ok (Some k)) = Begins p version said k × Keeps from to
HeadEnded p version said from to (Ok None) =
    CannotBegin p version said × Appends from to no_beginning
HeadEnded p version said from to (Err f) =
    (f ≡ Write) × CannotBegin p version said × AppendsFront from to no_beginning

-- the same, with what is known then
abbrev pub HeadTaken :
    Plan → Version → List Entry → Option Known → Option (List ℕ) → Option (List ℕ)
    → Result (Option Status) Fault → Type 0
HeadTaken p version said known from to (Ok None) =
    (k : Known) × (known ≡ Some k) × Begins p version said k × Keeps from to
HeadTaken p version said known from to (Ok (Some status)) =
    CannotBegin p version said × Appends from to no_beginning × (status ≡ SomeRefused)
HeadTaken p version said known from to (Err f) =
    (f ≡ Write) × CannotBegin p version said × AppendsFront from to no_beginning

-- what is to be written of what was said last
abbrev pub IsOfEntry : Plan → Option ℕ → Version → List Entry → Entry → List ℕ → Type 0
IsOfEntry p skew version said e text =
    ((k : Option Known) × (waits : List SeenChange) × Judged p version skew (e ∷ said) k waits text)
    ⊎ StopsAt p version skew said e text

-- a 13th change of a sample was said last
abbrev pub IsOverfullAt :
    Plan → Option ℕ → Version → List Entry → Entry → List ℕ → Type 0
IsOverfullAt p skew version said (entry.Change c) text = IsOverfull p version skew said c text
IsOverfullAt p skew version said _ text = ⊥

-- what was said last was judged, and written
abbrev pub EntryTaken :
    Plan → Option ℕ → Version → List Entry → Entry → Option Known → List SeenChange
    → Option (List ℕ) → Option (List ℕ) → Result (Option Status) ProbeFault → Type 0
EntryTaken p skew version said e known waits from to (Ok None) =
    Stands p skew version (e ∷ said) known waits from to
EntryTaken p skew version said e known waits from to (Ok (Some status)) =
    (text : List ℕ) × StopsAt p version skew said e text × Appends from to text
    × (status ≡ SomeRefused)
EntryTaken p skew version said e known waits from to (Err fault.TooManyOrders) =
    (text : List ℕ) × IsOverfullAt p skew version said e text × Appends from to text
EntryTaken p skew version said e known waits from to (Err (fault.Engine (engine.Trace f))) =
    (f ≡ Write) × (text : List ℕ) × IsOfEntry p skew version said e text
    × AppendsFront from to text
EntryTaken p skew version said e known waits from to (Err _) = ⊥

-- what is to be written behind all that was said
abbrev pub IsOfEnd : Plan → Version → Option ℕ → List Entry → List ℕ → Type 0
IsOfEnd p version skew said text =
    IsUnbegun p version skew said text ⊎ IsStoppedAtEnd p version skew said text
    ⊎ ((k : Known) × HasLines p version skew said k text) ⊎ IsWhole p version skew said text

-- the end was written
abbrev pub WholeWritten :
    Plan → Option ℕ → Version → List Entry → Option (List ℕ) → Option (List ℕ)
    → Result Status Fault → Type 0
WholeWritten p skew version said from to (Ok Done) =
    (text : List ℕ) × IsWhole p version skew said text × Appends from to text
WholeWritten p skew version said from to (Ok SomeRefused) =
    (text : List ℕ)
    × (IsUnbegun p version skew said text ⊎ IsStoppedAtEnd p version skew said text)
    × Appends from to text
WholeWritten p skew version said from to (Ok Limit) = ⊥
WholeWritten p skew version said from to (Err f) =
    (f ≡ Write) × (text : List ℕ)
    × IsOfEnd p version skew said text × AppendsFront from to text
