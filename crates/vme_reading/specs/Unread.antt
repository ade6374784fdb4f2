-- What is left of a trace without a header line. These are lemmas, which the laws of `Judge` cite:
-- a law cites what stands in `specs`. They are proved, and no result rests on what they mean.
use Rattle.std.proofs.Common.{inl, ℕ, List, [], Option, Some, None, Err, refl, sym, subst}
use Rattle.std.proofs.KnownBytes.{Appends-kept, Appends-nil}
use Rattle.vme_model.specs.declared.signals.Version.{Version}
use Rattle.vme_model.specs.declared.signals.Edge.{Edge}
use Rattle.vme_model.specs.Plan.{Plan}
use Rattle.vme_model.specs.Text.{read_of}
use Rattle.vme_trace.specs.declared.Fault.{Fault}
use Rattle.vme_trace.specs.declared.Fault.TheVariants.{Header, Line, TooLong, CutOff, Read, Memory, Failed, Write}
use Rattle.vme_reading.specs.Begun.{IsUnread}
use Rattle.vme_reading.specs.Reporting.{AreLinesAt, ReportsEach, Writes}
use Rattle.vme_reading.specs.Seeking.{IsUnasked, SeeksEdge, Writing}
use Rattle.vme_reading.specs.Streams.{Streams, streams, Wrote, WroteNothing}
use Rattle.vme_reading.specs.Waiting.{StopsWaiting}

-- An engine that waits before the first edge still waits where no header line was read.
module _
    (Waits : Option Version → List Edge → Type 0) (waits : Waits None [])
    (trace : List ℕ) (s : Streams) where
  waits_unread : (w : Option Version) (es : List Edge) → IsUnread w es → Waits w es
  waits_unread w es h =
      subst (λ (v : Option Version). Waits v es) (sym h.0) (subst (Waits None) (sym h.1) waits)

  pub stops_unread : (f : Fault) → StopsWaiting IsUnread trace (streams s.from s.to None None) f
      → StopsWaiting Waits trace s f
  stops_unread Header h = (h.0, waits_unread (read_of trace).version (read_of trace).edges h.1)
  stops_unread (Line n) h = (h.0, waits_unread (read_of trace).version (read_of trace).edges h.1)
  stops_unread (TooLong n) h =
      (h.0, waits_unread (read_of trace).version (read_of trace).edges h.1)
  stops_unread CutOff h = (h.0, waits_unread (read_of trace).version (read_of trace).edges h.1)
  stops_unread Read h =
      (h.0, h.1, h.2, waits_unread (read_of h.0).version (read_of h.0).edges h.3)
  stops_unread Memory h = (h.0, h.1, h.2, waits_unread (read_of trace).version h.0 h.3)
  stops_unread Failed h = absurd h
  stops_unread Write h = absurd h

-- no edge is asked for before the first
unasked_unread : (asked : Option ℕ) (p : Plan) → IsUnasked asked p None []
unasked_unread (Some n) p = λ some. some
unasked_unread None p = refl

pub seeks_unread : {A : Type 0} (At : Writing A) (Fails : Fault → Type 0) (asked : Option ℕ)
    (p : Plan) (trace : List ℕ) (s : Streams) (f : Fault) → WroteNothing s
    → StopsWaiting IsUnread trace (streams s.from s.to None None) f
    → SeeksEdge At Fails asked p trace s (Err f)
seeks_unread At Fails asked p trace s f kept h =
    inl (stops_unread (IsUnasked asked p) (unasked_unread asked p) trace s f h, kept)

pub reports_unbegun : (Lines Text : Writes) (Fails : Fault → Type 0) (p : Plan) (trace : List ℕ)
    (s : Streams) (f : Fault) → WroteNothing s
    → StopsWaiting IsUnread trace (streams s.from s.to None None) f
    → ReportsEach Lines Text Fails p trace s (Err f)
reports_unbegun Lines Text Fails p trace s f nothing h =
    inl (stops_unread (λ version es. (bytes : List ℕ) × AreLinesAt Lines p version es bytes
    × Wrote s bytes)
    ([], refl, Appends-kept s.old s.old s.new [] (Appends-nil s.old) nothing) trace s f h)
