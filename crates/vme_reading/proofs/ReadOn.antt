-- What is known of a trace at a read.
use Rattle.std.proofs.Common.{◌≡◌, ◌≢◌, inl, inr, ℕ, List, [], ◌++◌, Bool, true, false, Option, Some, unwrap_or, Result, Ok, Err, refl, sym, ◌∙◌, append_assoc, append-nil, subst}
use Rattle.std.specs.Io.KnownBytes.{Consumes}
use Rattle.vme_model.specs.declared.signals.Version.{Version}
use Rattle.vme_model.specs.declared.signals.Edge.{Edge}
use Rattle.vme_model.specs.Text.{read_of}
use Rattle.vme_trace.specs.declared.Fault.{Fault}
use Rattle.vme_trace.specs.declared.Fault.TheVariants.{Header, Line, TooLong, CutOff, Read, Memory, Failed, Write}
use Rattle.vme_trace.specs.Reading as trace
use Rattle.vme_reading.specs.Streams.{IsInput}
use Rattle.vme_reading.specs.Steps.{Begins, Faults, Comes}
use Rattle.vme_reading.specs.Pieces.{IsFaulty, Stopped, Came}
use Rattle.vme_reading.proofs.TraceReads.{IsReading, begins_more, whole_input, read_out, no_such}
use Rattle.vme_reading.proofs.CanGoOn.{can_go_on}

module _ (v : Version) (from to : Option (List ℕ)) (head : List ℕ) (left : ℕ) (reader : trace.ReaderState) (es : List Edge) (known : reader.version ≡ Some v) where
  all_is : (later : List ℕ) → (head ++ later) ++ unwrap_or to [] ≡ head ++ (later ++ unwrap_or to [])
  all_is later = append_assoc head later (unwrap_or to [])

  is_input : (later : List ℕ) → Consumes from to (head ++ later) → IsInput from (head ++ (later ++ unwrap_or to []))
  is_input later taken = subst (IsInput from) (all_is later) (whole_input from to (head ++ later) taken)

  -- a fault of the trace
  faulty : (all : List ℕ) (f : Fault) → f ≢ Memory → trace.HasFaultAfter (read_of all) reader.version es f → IsFaulty all es f
  faulty all f ne h = (h.fault_is ne, h.edges_are ne)

  stopped : (all : List ℕ) (f : Fault) → trace.HasFaultAfter (read_of all) reader.version es f → Stopped v all from to es f
  stopped all Header h = faulty all Header (λ e. cc) h
  stopped all (Line n) h = faulty all (Line n) (λ e. cc) h
  stopped all (TooLong n) h = faulty all (TooLong n) (λ e. cc) h
  stopped all CutOff h = faulty all CutOff (λ e. cc) h
  stopped all Read h = absurd (no_such (read_of all).fault Read (h.fault_is (λ e. cc)) (inl refl))
  stopped all Memory h = tt
  stopped all Failed h = absurd (no_such (read_of all).fault Failed (h.fault_is (λ e. cc)) (inr (inr (inl refl))))
  stopped all Write h = absurd (no_such (read_of all).fault Write (h.fault_is (λ e. cc)) (inr (inr (inr refl))))

  begins : (later : List ℕ) (f : Fault) → Faults to (head ++ later) reader es f → Begins (read_of ((head ++ later) ++ unwrap_or to [])) v es
  begins later f which = elim which [
    | inl failed ↦ failed.1.begins v known
    | inr stops ↦ record { version = stops.version_is ∙ known; others = stops.front.0; edges = stops.front.1 }
  ]

  stopped_so : (later : List ℕ) (f : Fault) → Consumes from to (head ++ later) → Faults to (head ++ later) reader es f
      → Stopped v (head ++ (later ++ unwrap_or to [])) from to es f
  stopped_so later f taken which = elim which [
    | inl failed ↦ subst (Stopped v (head ++ (later ++ unwrap_or to [])) from to es) (sym failed.0)
        (head ++ later, taken, failed.1.goes_on, sym failed.1.version ∙ known, failed.1.edges)
    | inr stops ↦ stopped (head ++ (later ++ unwrap_or to [])) f
        (subst (λ (l : List ℕ). trace.HasFaultAfter (read_of l) reader.version es f) (all_is later) stops)
  ]

  pub came_is : (more : Result Bool Fault) → Comes from to head left reader es more
      → (rest : List ℕ) × IsInput from (head ++ rest) × Came v (head ++ rest) from to es more
  came_is (Ok true) h = (
    h.0 ++ unwrap_or to [],
    is_input h.0 h.1,
    subst (λ (l : List ℕ). Begins (read_of l) v es) (all_is h.0) (begins_more v reader (head ++ h.0) es h.3 known (unwrap_or to [])),
  )
  came_is (Ok false) h = (
    h.0,
    read_out from to (head ++ h.0) h.1 h.2,
    (record { version = sym h.3 ∙ known; others = []; edges = h.4 ∙ sym (append-nil es) }, h.4, h.5, h.2),
  )
  came_is (Err f) h = (
    h.0 ++ unwrap_or to [],
    is_input h.0 h.1,
    (subst (λ (l : List ℕ). Begins (read_of l) v es) (all_is h.0) (begins h.0 f h.2), stopped_so h.0 f h.1 h.2),
  )

  -- a fault of reading that is reported without a read
  pub unread : IsReading head from to reader left es
      → (rest : List ℕ) × IsInput from (head ++ rest) × Came v (head ++ rest) from to es (Err Read)
  unread r = (
    r.later ++ unwrap_or to [],
    is_input r.later r.taken,
    (
      subst (λ (l : List ℕ). Begins (read_of l) v es) (all_is r.later) (begins_more v reader (head ++ r.later) es r.read known (unwrap_or to [])),
      (head ++ r.later, r.taken, can_go_on reader (head ++ r.later) es r.read, r.read.version ∙ known, r.read.edges),
    ),
  )

pub came_begins : (v : Version) (trace : List ℕ) (from to : Option (List ℕ)) (es : List Edge) (more : Result Bool Fault) → Came v trace from to es more → Begins (read_of trace) v es
came_begins v trace from to es (Ok true) h = h
came_begins v trace from to es (Ok false) h = h.0
came_begins v trace from to es (Err f) h = h.0
