-- A fault of a trace that comes before an engine has what it waits for.
use Rattle.std.proofs.Common.{◌≡◌, List, ℕ, Bool, Option, Some, Result, Err, sym, subst}
use Rattle.vme_model.specs.declared.signals.Version.{Version}
use Rattle.vme_model.specs.declared.signals.Edge.{Edge}
use Rattle.vme_model.specs.Text.{Reading, read_of}
use Rattle.vme_trace.specs.declared.Fault.{Fault}
use Rattle.vme_trace.specs.declared.Fault.TheVariants.{Header, Line, TooLong, CutOff, Read, Memory, Failed, Write}
use Rattle.vme_reading.specs.Streams.{Streams}
use Rattle.vme_reading.specs.Steps.{Begins}
use Rattle.vme_reading.specs.Pieces.{Came, Stopped}
use Rattle.vme_reading.specs.Waiting.{StopsWaiting}

-- ---- behind the header line

module _ (Waits : Option Version → List Edge → Type 0) (v : Version) (all : List ℕ) (s : Streams) (es : List Edge) (begins : Begins (read_of all) v es) (waits : Waits (Some v) es) where
  waits_here : (r : Reading) → r.version ≡ Some v → r.edges ≡ es → Waits r.version r.edges
  waits_here r named edges = subst (λ (w : Option Version). Waits w r.edges) (sym named) (subst (Waits (Some v)) (sym edges) waits)

  pub stops_waiting : (f : Fault) → Stopped v all s.from s.to es f → StopsWaiting Waits all s f
  stops_waiting Header h = (h.0, waits_here (read_of all) begins.version h.1)
  stops_waiting (Line n) h = (h.0, waits_here (read_of all) begins.version h.1)
  stops_waiting (TooLong n) h = (h.0, waits_here (read_of all) begins.version h.1)
  stops_waiting CutOff h = (h.0, waits_here (read_of all) begins.version h.1)
  stops_waiting Read h = (h.0, h.1, h.2, waits_here (read_of h.0) h.3 h.4)
  stops_waiting Memory h = (es, begins.others, begins.edges, subst (λ (w : Option Version). Waits w es) (sym begins.version) waits)
  stops_waiting Failed h = absurd h
  stops_waiting Write h = absurd h

-- by what the last read answered
pub waits_now : (Waits : Option Version → List Edge → Type 0) (v : Version) (all : List ℕ) (s : Streams) (es : List Edge) (more : Result Bool Fault) → Came v all s.from s.to es more
    → Waits (Some v) es → (f : Fault) → more ≡ Err f → StopsWaiting Waits all s f
waits_now Waits v all s es more came waits f is =
    let end : Came v all s.from s.to es (Err f) = subst (Came v all s.from s.to es) is came in stops_waiting Waits v all s es end.0 waits f end.1

-- ---- of which more is known

module _ (Waits Others : Option Version → List Edge → Type 0)
    (turn : (version : Option Version) (es : List Edge) → Waits version es → Others version es)
    (trace : List ℕ) (s : Streams) where
  pub stops_as : (f : Fault) → StopsWaiting Waits trace s f → StopsWaiting Others trace s f
  stops_as Header h = (h.0, turn (read_of trace).version (read_of trace).edges h.1)
  stops_as (Line n) h = (h.0, turn (read_of trace).version (read_of trace).edges h.1)
  stops_as (TooLong n) h = (h.0, turn (read_of trace).version (read_of trace).edges h.1)
  stops_as CutOff h = (h.0, turn (read_of trace).version (read_of trace).edges h.1)
  stops_as Read h = (h.0, h.1, h.2, turn (read_of h.0).version (read_of h.0).edges h.3)
  stops_as Memory h = (h.0, h.1, h.2, turn (read_of trace).version h.0 h.3)
  stops_as Failed h = absurd h
  stops_as Write h = absurd h
