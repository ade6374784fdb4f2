-- Up to the header line of a trace that stands alone, and up to a plan.
use Rattle.std.proofs.Common.{◌≡◌, ◌≢◌, inl, inr, ℕ, List, [], ◌++◌, length, Bool, true, Option, None, unwrap_or, Result, Ok, Err, refl, sym, ◌∙◌, subst}
use Rattle.vme_model.specs.declared.signals.Version.{Version}
use Rattle.vme_model.specs.declared.signals.Edge.{Edge}
use Rattle.vme_model.specs.Plan.{Plan}
use Rattle.vme_model.specs.Text.{read_of}
use Rattle.vme_trace.specs.declared.Fault.{Fault}
use Rattle.vme_trace.specs.declared.Fault.TheVariants.{Header, Line, TooLong, CutOff, Read, Memory, Failed, Write}
use Rattle.vme_trace.specs.Reading as trace
use Rattle.vme_reading.specs.declared.EngineFault.{EngineFault}
use Rattle.vme_reading.specs.declared.EngineFault.TheVariants as fault
use Rattle.vme_reading.specs.Streams.{Streams, streams}
use Rattle.vme_reading.specs.Outcomes.{Answer, Lent, LentAsking, HasFault}
use Rattle.vme_reading.specs.Steps.{IsNoPlan, IsCounted, ReadFails, Comes, Opens}
use Rattle.vme_reading.specs.Waiting.{StopsWaiting}
use Rattle.vme_reading.specs.Begun.{IsUnread, IsUnbegun}
use Rattle.vme_reading.proofs.TraceSoFar.{unknown_version}
use Rattle.vme_reading.proofs.TraceReads.{no_such, whole_input}

-- ---- a plan

pub no_plan : (text : List ℕ) (nothing : Type 0) (Runs : Plan → Answer → Type 0) (f : EngineFault) → IsNoPlan text f → nothing → Lent text nothing Runs (Err f)
no_plan text nothing Runs fault.TooLong h done = (h, done)
no_plan text nothing Runs (fault.Scenario e) h done = (h.0, h.1, done)
no_plan text nothing Runs (fault.Trace f) h done = absurd h
no_plan text nothing Runs fault.CannotRead h done = absurd h
no_plan text nothing Runs fault.NoMemory h done = absurd h
no_plan text nothing Runs (fault.Beyond n) h done = absurd h

-- the same of an engine that asks for memory
pub asks : (text : List ℕ) (nothing : Type 0) (Runs : Plan → Answer → Type 0) (answer : Answer) → Lent text nothing Runs answer → LentAsking text nothing Runs answer
asks text nothing Runs (Ok status) h = h
asks text nothing Runs (Err fault.TooLong) h = h
asks text nothing Runs (Err (fault.Scenario e)) h = h
asks text nothing Runs (Err (fault.Trace f)) h = h
asks text nothing Runs (Err fault.CannotRead) h = h
asks text nothing Runs (Err fault.NoMemory) h = absurd h
asks text nothing Runs (Err (fault.Beyond n)) h = h

pub no_plan_asking : (text : List ℕ) (nothing : Type 0) (Runs : Plan → Answer → Type 0) (f : EngineFault) → IsNoPlan text f → nothing → LentAsking text nothing Runs (Err f)
no_plan_asking text nothing Runs f h done = asks text nothing Runs (Err f) (no_plan text nothing Runs f h done)

-- ---- the first reads

pub counted_first : (from to : Option (List ℕ)) (head : List ℕ) (reader : trace.ReaderState) (es : List Edge) (first : Result Bool Fault) (left : ℕ)
    → Comes from to head left reader es first → first ≡ Ok true → IsCounted reader left (length es)
counted_first from to head reader es first left came is =
    let h = subst (λ (a : Result Bool Fault). Comes from to head left reader es a) is came in
    record { bytes = head ++ h.0; es = es; read = h.3; bounded = h.2; count = refl }

-- ---- a fault before the header line

module _ (all : List ℕ) (s : Streams) (es : List Edge) where
  at_fault : (f : Fault) → f ≢ Memory → trace.HasFaultAfter (read_of all) None es f → HasFault all f × IsUnread (read_of all).version (read_of all).edges
  at_fault f ne h = (h.fault_is ne, (h.version_is, (unknown_version all h.version_is).0))

  stops_unread : (f : Fault) → trace.HasFaultAfter (read_of all) None es f → StopsWaiting IsUnread all s f
  stops_unread Header h = at_fault Header (λ e. cc) h
  stops_unread (Line n) h = at_fault (Line n) (λ e. cc) h
  stops_unread (TooLong n) h = at_fault (TooLong n) (λ e. cc) h
  stops_unread CutOff h = at_fault CutOff (λ e. cc) h
  stops_unread Read h = absurd (no_such (read_of all).fault Read (h.fault_is (λ e. cc)) (inl refl))
  stops_unread Memory h = ([], (read_of all).edges, refl, (h.version_is, refl))
  stops_unread Failed h = absurd (no_such (read_of all).fault Failed (h.fault_is (λ e. cc)) (inr (inr (inl refl))))
  stops_unread Write h = absurd (no_such (read_of all).fault Write (h.fault_is (λ e. cc)) (inr (inr (inr refl))))

module _ (from to : Option (List ℕ)) (reader : trace.ReaderState) (es : List Edge) (left : ℕ) (unknown : reader.version ≡ None) where
  failed_unread : (bytes : List ℕ) → ReadFails to bytes reader es → IsUnread (read_of bytes).version (read_of bytes).edges
  failed_unread bytes h = let version = sym h.version ∙ unknown in (version, (unknown_version bytes version).0)

  pub unbegun : (f : Fault) → Opens from to reader es (Err f, left) → IsUnbegun from to f
  unbegun f h = (
    h.0.0 ++ unwrap_or to [],
    whole_input from to h.0.0 h.0.1,
    elim h.0.2 [
      | inl failed ↦ subst (StopsWaiting IsUnread (h.0.0 ++ unwrap_or to []) (streams from to None None)) (sym failed.0) (h.0.0, h.0.1, failed.1.goes_on, failed_unread h.0.0 failed.1)
      | inr stopped ↦ stops_unread (h.0.0 ++ unwrap_or to []) (streams from to None None) es f
          (subst (λ (w : Option Version). trace.HasFaultAfter (read_of (h.0.0 ++ unwrap_or to [])) w es f) unknown stopped)
    ],
  )
