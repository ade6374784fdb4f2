-- Up to the header line of a trace that stands alone, and up to a plan.
use Rattle.std.proofs.Common.{◌≡◌, ◌≢◌, inl, inr, ℕ, List, [], ◌++◌, length, Bool, true, false, Option, None, unwrap_or, Result, Ok, Err, refl, sym, ◌∙◌, subst}
use Rattle.std.specs.Io.KnownBytes.{Appends, Consumes}
use Rattle.std.proofs.KnownBytes.{Appends-nil}
use Rattle.vme_model.specs.declared.signals.Version.{Version}
use Rattle.vme_model.specs.declared.signals.Edge.{Edge}
use Rattle.vme_model.specs.Plan.{Plan}
use Rattle.vme_model.specs.Text.{Reading, read_of}
use Rattle.vme_model.specs.Report.{report, report_of}
use Rattle.vme_trace.specs.declared.Fault.{Fault}
use Rattle.vme_trace.specs.declared.Fault.TheVariants.{Header, Line, TooLong, CutOff, Read, Memory, Failed, Write}
use Rattle.vme_trace.specs.Reading as trace
use Rattle.vme_engines.specs.declared.EngineFault.{EngineFault}
use Rattle.vme_engines.specs.declared.EngineFault.TheVariants as fault
use Rattle.vme_engines.specs.Streams.{streams}
use Rattle.vme_engines.specs.Outcomes.{Answer, Lent, lines_of, HasFault, ReplayStops, ReplaysInput}
use Rattle.vme_engines.specs.Steps.{IsNoPlan, IsCounted, ReadFails, Comes, Opens}
use Rattle.vme_engines.proofs.TraceSoFar.{unknown_version}
use Rattle.vme_engines.proofs.TraceReads.{no_such, whole_input}

-- ---- a plan

pub no_plan : (text : List ℕ) (nothing : Type 0) (Runs : Plan → Answer → Type 0) (f : EngineFault) → IsNoPlan text f → nothing → Lent text nothing Runs (Err f)
no_plan text nothing Runs fault.TooLong h done = (h, done)
no_plan text nothing Runs (fault.Scenario e) h done = (h.0, h.1, done)
no_plan text nothing Runs (fault.Trace f) h done = absurd h
no_plan text nothing Runs fault.CannotRead h done = absurd h
no_plan text nothing Runs fault.NoMemory h done = absurd h
no_plan text nothing Runs (fault.Beyond n) h done = absurd h

-- ---- the first reads

pub counted_first : (from to : Option (List ℕ)) (text head : List ℕ) (reader : trace.ReaderState) (es : List Edge) (first : Result Bool Fault) (left : ℕ)
    → Comes from to text head left reader es first → first ≡ Ok true → IsCounted reader left (length es)
counted_first from to text head reader es first left came is =
    let h = subst (λ (a : Result Bool Fault). Comes from to text head left reader es a) is came in
    record { bytes = head ++ h.0; es = es; read = h.3; bounded = h.2; count = refl }

-- without a version, nothing is written
report_unknown : (p : Plan) (r : Reading) (w : Option Version) → w ≡ None → report_of w p r ≡ []
report_unknown p r w e = rw e refl

lines_unknown : (p : Plan) (es : List Edge) (w : Option Version) → w ≡ None → lines_of p w es ≡ []
lines_unknown p es w e = rw e refl

module _ (p : Plan) (all : List ℕ) (from to old : Option (List ℕ)) (reader : trace.ReaderState) (es : List Edge) (unknown : reader.version ≡ None) where
  at_fault : (f : Fault) → f ≢ Memory → trace.HasFaultAfter (read_of all) reader.version es f → HasFault all f × Appends old old (report p all)
  at_fault f ne h = (h.fault_is ne, rw (report_unknown p (read_of all) (read_of all).version (h.version_is ∙ unknown)) (Appends-nil old))

  stops_unknown : (f : Fault) → trace.HasFaultAfter (read_of all) reader.version es f → ReplayStops p [] all (streams from to old old) f
  stops_unknown Header h = at_fault Header (λ e. cc) h
  stops_unknown (Line n) h = at_fault (Line n) (λ e. cc) h
  stops_unknown (TooLong n) h = at_fault (TooLong n) (λ e. cc) h
  stops_unknown CutOff h = at_fault CutOff (λ e. cc) h
  stops_unknown Read h = absurd (no_such (read_of all).fault Read (h.fault_is (λ e. cc)) (inl refl))
  stops_unknown Memory h = (es, h.front.0, h.front.1, rw (lines_unknown p es (read_of all).version (h.version_is ∙ unknown)) (Appends-nil old))
  stops_unknown Failed h = absurd (no_such (read_of all).fault Failed (h.fault_is (λ e. cc)) (inr (inr (inl refl))))
  stops_unknown Write h = absurd (no_such (read_of all).fault Write (h.fault_is (λ e. cc)) (inr (inr (inr refl))))

failed_unknown : (p : Plan) (all bytes : List ℕ) (from to old : Option (List ℕ)) (reader : trace.ReaderState) (es : List Edge) → Consumes from to bytes → reader.version ≡ None → ReadFails to bytes reader es
    → ReplayStops p [] all (streams from to old old) Read
failed_unknown p all bytes from to old reader es taken unknown h =
    (bytes, taken, h.goes_on, rw (lines_unknown p (read_of bytes).edges (read_of bytes).version (sym h.version ∙ unknown)) (Appends-nil old))

module _ (p : Plan) (from to old : Option (List ℕ)) (reader : trace.ReaderState) (es : List Edge) (left : ℕ) (unknown : reader.version ≡ None) where
  pub unopened : (f : Fault) → Opens from to reader es (Err f, left) → ReplaysInput (streams from to old old) p (Err (fault.Trace f))
  unopened f h = (
    h.0.0 ++ unwrap_or to [],
    whole_input from to [] h.0.0 h.0.1,
    elim h.0.2 [
      | inl failed ↦ subst (ReplayStops p [] (h.0.0 ++ unwrap_or to []) (streams from to old old)) (sym failed.0) (failed_unknown p (h.0.0 ++ unwrap_or to []) h.0.0 from to old reader es h.0.1 unknown failed.1)
      | inr stopped ↦ stops_unknown p (h.0.0 ++ unwrap_or to []) from to old reader es unknown f stopped
    ],
  )

  pub never_unopened : (b : Bool) → Opens from to reader es (Ok b, left) → ⊥
  never_unopened true h = h.1 refl unknown
  never_unopened false h = (unknown_version h.0.0 (sym h.0.3 ∙ unknown)).1 h.0.5
