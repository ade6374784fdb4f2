-- What the one loop over a trace leaves, whatever its engine does with the edges.
use Rattle.std.specs.Prelude.{◌≡◌, ◌++◌, ℕ, Bool, true, false, List, Option, Some, None, Result, Ok, Err}
use Rattle.std.specs.Io.KnownBytes.{Consumes, IsAtEnd}
use Rattle.vme_model.specs.declared.signals.Version.{Version}
use Rattle.vme_model.specs.declared.signals.Edge.{Edge}
use Rattle.vme_model.specs.Text.{read_of}
use Rattle.vme_trace.specs.declared.Fault.{Fault}
use Rattle.vme_trace.specs.declared.Fault.TheVariants.{Header, Line, TooLong, CutOff, Read, Memory, Failed, Write}
use Rattle.vme_trace.specs.Reading as trace
use Rattle.vme_engines.specs.Streams.{Streams, streams, IsInput}
use Rattle.vme_engines.specs.Outcomes.{HasFault, CanGoOn}
use Rattle.vme_engines.specs.Steps.{Begins, Comes}

-- the edges of a trace came up to this fault of it
abbrev pub IsFaulty : List ℕ → List Edge → Fault → Type 0
IsFaulty trace es f = HasFault trace f × ((read_of trace).edges ≡ es)

-- What is known of a trace of this version behind a text, where a fault came behind these edges of it.
abbrev pub Stopped : Version → List ℕ → List ℕ → Option (List ℕ) → Option (List ℕ) → List Edge → Fault → Type 0
Stopped v text trace from to es Header = IsFaulty trace es Header
Stopped v text trace from to es (Line n) = IsFaulty trace es (Line n)
Stopped v text trace from to es (TooLong n) = IsFaulty trace es (TooLong n)
Stopped v text trace from to es CutOff = IsFaulty trace es CutOff
Stopped v text trace from to es Read = (bytes : List ℕ) × Consumes from to (text ++ bytes) × CanGoOn bytes × ((read_of bytes).version ≡ Some v) × ((read_of bytes).edges ≡ es)
Stopped v text trace from to es Memory = Unit {0}
Stopped v text trace from to es Failed = ⊥
Stopped v text trace from to es Write = ⊥

-- The trace begins with these edges, and the read that gave the last of them answered so.
abbrev pub Came : Version → List ℕ → List ℕ → Option (List ℕ) → Option (List ℕ) → List Edge → Result Bool Fault → Type 0
Came v text trace from to es (Ok true) = Begins (read_of trace) v es
Came v text trace from to es (Ok false) = Begins (read_of trace) v es × ((read_of trace).edges ≡ es) × ((read_of trace).fault ≡ None) × IsAtEnd to
Came v text trace from to es (Err f) = Begins (read_of trace) v es × Stopped v text trace from to es f

abbrev pub answered : {A : Type 0} → Result A Fault → Result (Option A) Fault
answered (Ok a) = Ok (Some a)
answered (Err f) = Err f

-- What an engine does with edges since it began: with these, where the last read answered so, from what the writer held to what it holds.
abbrev pub Taking : Type 0 → Type 0 → Type 1
Taking S A = List Edge → Result Bool Fault → Option (List ℕ) → Option (List ℕ) → S → Result (Option A) Fault → Type 0

-- An engine that takes the edges of a trace behind a text answers this.
abbrev pub Answers : {S A : Type 0} → Taking S A → Version → List ℕ → List ℕ → Streams → Result A Fault → Type 0
Answers {S} takes v text trace s answer =
    (es : List Edge) × (more : Result Bool Fault) × (now : S) × Came v text trace s.from s.to es more × takes es more s.old s.new now (answered answer)

-- An engine whose trace is read on behind a first read answers by the whole of the trace.
abbrev pub ReadsOn : {S A : Type 0} → Taking S A → trace.ReaderState → List Edge → Result Bool Fault → ℕ → Option (List ℕ) → Option (List ℕ) → Option (List ℕ) → Option (List ℕ) → Result A Fault → Type 0
ReadsOn takes reader es first left at to old new answer =
    (version : Version) (from : Option (List ℕ)) (text head : List ℕ) → reader.version ≡ Some version → Comes from at text head left reader es first
    → (rest : List ℕ) × IsInput from (text ++ (head ++ rest)) × Answers takes version text (head ++ rest) (streams from to old new) answer
