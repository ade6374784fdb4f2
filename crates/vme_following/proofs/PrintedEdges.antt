-- What is printed at the edge of a trace that is asked for.
use Rattle.std.proofs.Common.{◌≡◌, inl, inr, ℕ, List, Option, Result, Ok, Err, refl}
use Rattle.std.specs.Io.KnownBytes.{Appends}
use Rattle.vme_model.specs.Plan.{Plan}
use Rattle.vme_model.specs.Text.{read_of}
use Rattle.vme_trace.specs.declared.Fault.{Fault}
use Rattle.vme_trace.specs.declared.Fault.TheVariants.{Write}
use Rattle.vme_trace.specs.Writing.{AppendsFront}
use Rattle.vme_reading.specs.declared.EngineFault.{EngineFault}
use Rattle.vme_reading.specs.declared.EngineFault.TheVariants as fault
use Rattle.vme_reading.specs.declared.Status.{Status}
use Rattle.vme_reading.specs.declared.Status.TheVariants.{Done}
use Rattle.vme_reading.specs.declared.seeking.Found.{Found}
use Rattle.vme_reading.specs.declared.seeking.Found.TheVariants.{At, Legal, Beyond}
use Rattle.vme_reading.specs.Outcomes.{Answer, LentAsking}
use Rattle.vme_reading.specs.Readings.{ReadsInput, ReadsLent}
use Rattle.vme_reading.specs.Seeking.{IsAllLegal, SeeksEdge, Writing}
use Rattle.vme_reading.specs.Streams.{streams}
use Rattle.vme_reading.proofs.WrittenLines.{appends_behind, front_after}
use Rattle.vme_check.specs.declared.checks.Finding.TheVariants as finding
use Rattle.vme_check.specs.Checking.{finding_line}
use Rattle.vme_following.specs.Printing.{PrintsInput}

module _ (Writes : Plan → Writing Status) (Fails : Fault → Type 0) (asked : Option ℕ)
    (text : List ℕ) (nothing : Type 0) (from to old mid : Option (List ℕ)) where
  abbrev pub Sought : Result (Found Status) EngineFault → Type 0
  Sought r =
      ReadsLent text nothing
      (λ p. ReadsInput (SeeksEdge (Writes p) Fails asked p) (streams from to old mid)) r

  abbrev pub Printed : Option (List ℕ) → Answer → Type 0
  Printed new = LentAsking text nothing (PrintsInput Writes Fails asked (streams from to old new))

  pub prints_at : (status : Status) → Sought (Ok (At status)) → Printed mid (Ok status)
  prints_at status h = (h.0, h.1, h.2, (h.3.0, h.3.1, inl h.3.2))

  pub prints_beyond : (n : ℕ) → Sought (Ok (Beyond n)) → Printed mid (Err (fault.Beyond n))
  prints_beyond n h = h

  pub prints_fault : (f : EngineFault) → Sought (Err f) → Printed mid (Err f)
  prints_fault fault.TooLong h = h
  prints_fault (fault.Scenario e) h = h
  prints_fault (fault.Trace f) h = (h.0, h.1, h.2, (h.3.0, h.3.1, inl h.3.2))
  prints_fault fault.CannotRead h = h
  prints_fault fault.NoMemory h = h
  prints_fault (fault.Beyond n) h = absurd h

  module _ (n : ℕ) (h : Sought (Ok (Legal n))) (new : Option (List ℕ)) where
    all_legal : (trace : List ℕ) (p : Plan)
        → IsAllLegal asked p (read_of trace) (streams from to old mid) n
        → IsAllLegal asked p (read_of trace) (streams from to old new) n
    all_legal trace p all = record {
      none = all.none;
      whole = all.whole;
      unrefused = all.unrefused;
      count = all.count;
      read_out = all.read_out;
    }

    pub prints_legal : Appends mid new (finding_line (finding.Legal n)) → Printed new (Ok Done)
    prints_legal wrote =
        let legal = h.3.2 in
        let line = appends_behind old mid new (finding_line (finding.Legal n)) legal.1 wrote in
        (h.0, h.1, h.2, (h.3.0, h.3.1, inr (n, all_legal h.3.0 h.0 legal.0, refl, line)))

    pub prints_legal_cut : (f : Fault) → f ≡ Write
        → AppendsFront mid new (finding_line (finding.Legal n)) → Printed new (Err (fault.Trace f))
    prints_legal_cut f write wrote =
        let legal = h.3.2 in
        let line = front_after old mid new (finding_line (finding.Legal n)) legal.1 wrote in
        (h.0, h.1, h.2, (h.3.0, h.3.1, inr (write, n, all_legal h.3.0 h.0 legal.0, line)))
