-- What is known of a trace at a read.
use Rattle.std.specs.Prelude.{◌≡◌, ℕ, Bool, true, false, List, Option, Some, None, Result, Ok, Err}
use Rattle.std.specs.Io.KnownBytes.{Consumes, IsAtEnd}
use Rattle.vme_model.specs.declared.signals.Version.{Version}
use Rattle.vme_model.specs.declared.signals.Edge.{Edge}
use Rattle.vme_model.specs.Text.{read_of}
use Rattle.vme_trace.specs.declared.Fault.{Fault}
use Rattle.vme_trace.specs.declared.Fault.TheVariants.{Header, Line, TooLong, CutOff, Read, Memory, Failed, Write}
use Rattle.vme_reading.specs.Outcomes.{HasFault, CanGoOn}
use Rattle.vme_reading.specs.Steps.{Begins}

-- the edges of a trace came up to this fault of it
abbrev pub IsFaulty : List ℕ → List Edge → Fault → Type 0
IsFaulty trace es f = HasFault trace f × ((read_of trace).edges ≡ es)

-- What is known of a trace of this version, if a fault came behind these edges of it.
abbrev pub Stopped :
    Version → List ℕ → Option (List ℕ) → Option (List ℕ) → List Edge → Fault → Type 0
Stopped v trace from to es Header = IsFaulty trace es Header
Stopped v trace from to es (Line n) = IsFaulty trace es (Line n)
Stopped v trace from to es (TooLong n) = IsFaulty trace es (TooLong n)
Stopped v trace from to es CutOff = IsFaulty trace es CutOff
Stopped v trace from to es Read =
    (bytes : List ℕ) × Consumes from to bytes × CanGoOn bytes
    × ((read_of bytes).version ≡ Some v) × ((read_of bytes).edges ≡ es)
Stopped v trace from to es Memory = Unit {0}
Stopped v trace from to es Failed = ⊥
Stopped v trace from to es Write = ⊥

-- The trace begins with these edges, and the read that gave the last of them answered so.
abbrev pub Came :
    Version → List ℕ → Option (List ℕ) → Option (List ℕ) → List Edge → Result Bool Fault → Type 0
Came v trace from to es (Ok true) = Begins (read_of trace) v es
Came v trace from to es (Ok false) =
    Begins (read_of trace) v es × ((read_of trace).edges ≡ es)
    × ((read_of trace).fault ≡ None) × IsAtEnd to
Came v trace from to es (Err f) =
    Begins (read_of trace) v es × Stopped v trace from to es f

abbrev pub answered : {A : Type 0} → Result A Fault → Result (Option A) Fault
answered (Ok a) = Ok (Some a)
answered (Err f) = Err f
