-- The one reading of a trace, whatever its judge does with the edges.
use Rattle.std.proofs.Common.{◌≡◌, ℕ, List, ◌++◌, Bool, true, Option, Some, None, Result, Ok, Err, subst}
use Rattle.vme_model.specs.declared.signals.Version.{Version}
use Rattle.vme_model.specs.declared.signals.Edge.{Edge}
use Rattle.vme_model.specs.Plan.{Plan}
use Rattle.vme_trace.specs.declared.Fault.{Fault}
use Rattle.vme_trace.specs.declared.Fault.TheVariants.{Read}
use Rattle.vme_trace.specs.Reading as trace
use Rattle.vme_reading.specs.declared.Status.{Status}
use Rattle.vme_reading.specs.declared.EngineFault.{EngineFault}
use Rattle.vme_reading.specs.declared.EngineFault.TheVariants as fault
use Rattle.vme_reading.specs.Streams.{streams, IsInput}
use Rattle.vme_reading.specs.Outcomes.{Answer, LentAsking}
use Rattle.vme_reading.specs.Steps.{Comes, traced}
use Rattle.vme_reading.specs.Readings.{GoesOn, Leaving, LeavesNow, ReadsLent, Takes}
use Rattle.vme_reading.proofs.TraceReads.{IsReading, reading_of}
use Rattle.vme_reading.proofs.ReadOn.{came_is, unread}

-- ---- a piece

module _ {S A : Type 0} (stands : List Edge → Option (List ℕ) → Option (List ℕ) → S → Type 0) (leaves : Leaving A) (v : Version) (es fs : List Edge) (more : Result Bool Fault)
    (old new : Option (List ℕ)) (now : S) (same : es ≡ fs) where
  pub took_none : (o : Option A) → o ≡ None → Takes stands leaves v es more old new now (Ok o) → stands fs old new now
  took_none None is h = subst (λ l. stands l old new now) same h
  took_none (Some a) is h = absurd cc

  pub took_some : (o : Option A) (a : A) → o ≡ Some a → Takes stands leaves v es more old new now (Ok o) → LeavesNow leaves v fs more old new (Ok a)
  took_some None a is h = absurd cc
  took_some (Some b) a is h = subst (λ l. LeavesNow leaves v l more old new (Ok a)) same (subst (λ (o : Option A). Takes stands leaves v es more old new now (Ok o)) is h)

  pub took_err : (f : Fault) → Takes stands leaves v es more old new now (Err f) → LeavesNow leaves v fs more old new (Err f)
  took_err f h = subst (λ l. LeavesNow leaves v l more old new (Err f)) same h

pub went_on : {A : Type 0} (more : Result Bool Fault) (count all : ℕ) (o : Option A) → o ≡ None → GoesOn more count all (Ok o) → (more ≡ Ok true) × (count ≡ all)
went_on more count all None is h = h
went_on more count all (Some a) is h = absurd cc

-- ---- the loop

-- The judge goes on: it stands behind the edges of the trace so far.
pub record IsUnderWay
    {S : Type 0} (stands : List Edge → Option (List ℕ) → Option (List ℕ) → S → Type 0) (v : Version) (head : List ℕ) (from at old mid : Option (List ℕ)) (judge : S) (reader : trace.ReaderState)
    (left : ℕ)
    : Type 0 where
  pub es : List Edge
  pub reading : IsReading head from at reader left es
  pub known : reader.version ≡ Some v
  pub stands_so : stands es old mid judge

module _ (v : Version) (head : List ℕ) (from to old new : Option (List ℕ)) (left : ℕ) (reader : trace.ReaderState) (es : List Edge) (known : reader.version ≡ Some v) where
  -- what it leaves now is of the whole trace
  pub leaves_so : {A : Type 0} (leaves : Leaving A) (more : Result Bool Fault) (answer : Result A Fault) → Comes from to head left reader es more → LeavesNow leaves v es more old new answer
      → (rest : List ℕ) × IsInput from (head ++ rest) × leaves (head ++ rest) (streams from to old new) answer
  leaves_so leaves more answer came left_so =
      let all = came_is v from to head left reader es known more came in (all.0, all.1, left_so (head ++ all.0) from to all.2)

  -- no read is left
  pub leaves_unread : {A : Type 0} (leaves : Leaving A) (answer : Result A Fault) → IsReading head from to reader left es → LeavesNow leaves v es (Err Read) old new answer
      → (rest : List ℕ) × IsInput from (head ++ rest) × leaves (head ++ rest) (streams from to old new) answer
  leaves_unread leaves answer reading left_so =
      let all = unread v from to head left reader es known reading in (all.0, all.1, left_so (head ++ all.0) from to all.2)

  pub under_way : {S : Type 0} (stands : List Edge → Option (List ℕ) → Option (List ℕ) → S → Type 0) (more : Result Bool Fault) (now : S) → more ≡ Ok true → Comes from to head left reader es
      more → stands es old new now
      → IsUnderWay stands v head from to old new now reader left
  under_way stands more now is came h = record {
    es = es;
    reading = reading_of head from to reader left es (subst (λ (a : Result Bool Fault). Comes from to head left reader es a) is came);
    known = known;
    stands_so = h;
  }

-- ---- the scenario

-- less is known of what was done
pub lent_reading : {A : Type 0} (text : List ℕ) (nothing more : Type 0) (Reads : Plan → Result A Fault → Type 0) (r : Result A EngineFault) → ReadsLent text (nothing × more) Reads r
    → ReadsLent text nothing Reads r
lent_reading text nothing more Reads (Ok a) h = h
lent_reading text nothing more Reads (Err fault.TooLong) h = (h.0, h.1.0)
lent_reading text nothing more Reads (Err (fault.Scenario e)) h = (h.0, h.1, h.2.0)
lent_reading text nothing more Reads (Err (fault.Trace f)) h = h
lent_reading text nothing more Reads (Err fault.CannotRead) h = absurd h
lent_reading text nothing more Reads (Err fault.NoMemory) h = (h.0, h.1, h.2, h.3.0)
lent_reading text nothing more Reads (Err (fault.Beyond n)) h = absurd h

-- of a command that answers with a status
pub lent_status : (text : List ℕ) (nothing : Type 0) (Runs : Plan → Answer → Type 0) (r : Result Status EngineFault) → ReadsLent text nothing (λ p a. Runs p (traced a)) r
    → LentAsking text nothing Runs r
lent_status text nothing Runs (Ok status) h = h
lent_status text nothing Runs (Err fault.TooLong) h = h
lent_status text nothing Runs (Err (fault.Scenario e)) h = h
lent_status text nothing Runs (Err (fault.Trace f)) h = h
lent_status text nothing Runs (Err fault.CannotRead) h = h
lent_status text nothing Runs (Err fault.NoMemory) h = h
lent_status text nothing Runs (Err (fault.Beyond n)) h = absurd h
