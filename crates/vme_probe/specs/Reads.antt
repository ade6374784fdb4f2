-- What the parts of the reading of a capture do.
use Rattle.std.specs.Prelude.{◌≡◌, ◌++◌, [], ℕ, List, Option, Some, None, Result, Ok, Err}
use Rattle.std.specs.Io.KnownBytes.{Appends, Consumes}
use Rattle.vme_model.specs.Plan.{Plan}
use Rattle.vme_trace.specs.declared.Fault.TheVariants as trace
use Rattle.vme_trace.specs.Writing.{AppendsFront}
use Rattle.vme_captures.specs.declared.signals.Entry.{Entry}
use Rattle.vme_captures.specs.declared.CaptureFault.{CaptureFault}
use Rattle.vme_captures.specs.Feeding.{HasRead, IsFaultAfter}
use Rattle.vme_captures.specs.Reading.{read_of}
use Rattle.vme_reading.specs.declared.Status.{Status}
use Rattle.vme_reading.specs.declared.Status.TheVariants.{Done, SomeRefused, Limit}
use Rattle.vme_reading.specs.declared.EngineFault.TheVariants as engine
use Rattle.vme_reading.specs.Streams.{streams}
use Rattle.vme_samples.specs.declared.samples.SeenChange.{SeenChange}
use Rattle.vme_probe.specs.declared.probes.Judging.{Judging}
use Rattle.vme_probe.specs.declared.samplings.Sampling.{Sampling}
use Rattle.vme_probe.specs.declared.probes.ProbeFault.{ProbeFault}
use Rattle.vme_probe.specs.declared.probes.ProbeFault.TheVariants as fault
use Rattle.vme_probe.specs.Probing.{IsImpossibleAtEnd, IsJudged, IsOverfullIn, IsPossible, IsToWrite, JudgedBy, ProbesInput, StopsIn}

-- some bytes were read, and no fault stands in them
abbrev pub ReadsSome : Plan → Judging → Type 0
ReadsSome p now = (bytes : List ℕ) × (said : List Entry) × HasRead p now.reader bytes said

-- what `--skew` says, and the changes that wait
abbrev pub skew_of : Option Sampling → Option ℕ
skew_of None = None
skew_of (Some s) = Some s.skew

abbrev pub waiting_in : Option Sampling → List SeenChange
waiting_in None = []
waiting_in (Some s) = s.sample.changes.items

-- these bytes were read, and what they say was judged and written
pub record IsAt (p : Plan) (skew : Option ℕ) (now : Judging) (bytes : List ℕ)
    (from to : Option (List ℕ)) : Type 0 where
  pub skew_is : skew_of now.sampling ≡ skew
  pub said : List Entry
  pub read : HasRead p now.reader bytes said
  pub text : List ℕ
  pub judged : JudgedBy p skew now.reader.version said now.known (waiting_in now.sampling) text
  pub wrote : Appends from to text

-- a fault behind what was said, whatever follows these bytes
pub record Fails (p : Plan) (skew : Option ℕ) (bytes : List ℕ) (f : CaptureFault)
    (from to : Option (List ℕ)) : Type 0 where
  pub said : List Entry
  pub text : List ℕ
  pub fault : (more : List ℕ) → IsFaultAfter (read_of p (bytes ++ more)) said f
  pub judged : (more : List ℕ) → IsJudged p skew (read_of p (bytes ++ more)) said text
  pub wrote : Appends from to text

-- the capture is impossible, whatever follows
pub record IsStopped (p : Plan) (skew : Option ℕ) (bytes : List ℕ)
    (from to : Option (List ℕ)) : Type 0 where
  pub text : List ℕ
  pub stops : (more : List ℕ) → StopsIn p skew (read_of p (bytes ++ more)) text
  pub wrote : Appends from to text

-- a 13th change of a sample came, whatever follows
pub record IsFull (p : Plan) (skew : Option ℕ) (bytes : List ℕ)
    (from to : Option (List ℕ)) : Type 0 where
  pub text : List ℕ
  pub full : (more : List ℕ) → IsOverfullIn p skew (read_of p (bytes ++ more)) text
  pub wrote : Appends from to text

-- the output could not be written
pub record IsCut (p : Plan) (skew : Option ℕ) (bytes : List ℕ)
    (from to : Option (List ℕ)) : Type 0 where
  pub text : List ℕ
  pub is : (more : List ℕ) → IsToWrite p skew (read_of p (bytes ++ more)) text
  pub wrote : AppendsFront from to text

-- the last of these bytes were taken in
abbrev pub Taken :
    Plan → Option ℕ → List ℕ → Option (List ℕ) → Option (List ℕ) → Judging
    → Result (Option Status) ProbeFault → Type 0
Taken p skew bytes from to now (Ok None) = IsAt p skew now bytes from to
Taken p skew bytes from to now (Ok (Some status)) =
    (status ≡ SomeRefused) × IsStopped p skew bytes from to
Taken p skew bytes from to now (Err (fault.Capture f)) = Fails p skew bytes f from to
Taken p skew bytes from to now (Err fault.TooManyOrders) = IsFull p skew bytes from to
Taken p skew bytes from to now (Err (fault.Engine (engine.Trace f))) =
    (f ≡ trace.Write) × IsCut p skew bytes from to
Taken p skew bytes from to now (Err (fault.Engine _)) = ⊥

-- these bytes were taken for the whole capture
abbrev pub EndTaken :
    Plan → Option ℕ → List ℕ → Option (List ℕ) → Option (List ℕ) → Result Status ProbeFault
    → Type 0
EndTaken p skew bytes from to (Ok Done) =
    (text : List ℕ) × IsPossible p skew (read_of p bytes) text × Appends from to text
EndTaken p skew bytes from to (Ok SomeRefused) =
    (text : List ℕ) × IsImpossibleAtEnd p skew (read_of p bytes) text × Appends from to text
EndTaken p skew bytes from to (Ok Limit) = ⊥
EndTaken p skew bytes from to (Err (fault.Capture f)) =
    (said : List Entry) × (text : List ℕ) × IsFaultAfter (read_of p bytes) said f
    × IsJudged p skew (read_of p bytes) said text × Appends from to text
EndTaken p skew bytes from to (Err fault.TooManyOrders) = ⊥
EndTaken p skew bytes from to (Err (fault.Engine (engine.Trace f))) =
    (f ≡ trace.Write) × (text : List ℕ) × IsToWrite p skew (read_of p bytes) text
    × AppendsFront from to text
EndTaken p skew bytes from to (Err (fault.Engine _)) = ⊥

-- what the reader gave was read, judged and written
pub record ReadsTo (p : Plan) (skew : Option ℕ) (now : Judging)
    (from to old new : Option (List ℕ)) : Type 0 where
  pub bytes : List ℕ
  pub at : IsAt p skew now bytes old new
  pub consumed : Consumes from to bytes

-- the reader was read once more
abbrev pub ReadTaken :
    Plan → Option ℕ → Judging → Option (List ℕ) → Option (List ℕ) → Option (List ℕ)
    → Option (List ℕ) → Result (Option Status) ProbeFault → Type 0
ReadTaken p skew now from to old new (Ok None) = ReadsTo p skew now from to old new
ReadTaken p skew now from to old new (Ok (Some status)) =
    ProbesInput skew (streams from to old new) p (Ok status)
ReadTaken p skew now from to old new (Err f) =
    ProbesInput skew (streams from to old new) p (Err f)

-- before the first byte
pub record IsNew (skew : Option ℕ) (now : Judging) : Type 0 where
  pub read : (p : Plan) → HasRead p now.reader [] []
  pub unknown : now.known ≡ None
  pub skew_is : skew_of now.sampling ≡ skew
  pub empty : waiting_in now.sampling ≡ []
