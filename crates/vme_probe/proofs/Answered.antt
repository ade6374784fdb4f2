-- What a reading of a capture leaves: `probes`.
use Rattle.std.proofs.Common.{◌≡◌, ◌⊎◌, ◌∙◌, ◌≤◌, ◌++◌, ◌∷◌, [], ℕ, zero, suc, Bool, true, false, List, Option, Some, None, Result, Ok, Err, is_some, length, reverse, refl, sym, ap, subst, inl, inr, append-nil, arith}
use Rattle.std.specs.Io.KnownBytes.{Appends, Consumes, IsAtEnd, Keeps}
use Rattle.std.proofs.KnownBytes.{Appends-kept, Appends-nil, Consumes-kept, Consumes-nil}
use Rattle.vme_model.specs.declared.signals.Version.{Version}
use Rattle.vme_model.specs.Plan.{Plan}
use Rattle.vme_scenario.specs.Format.{scenario}
use Rattle.vme_trace.specs.declared.Fault.{Fault}
use Rattle.vme_trace.specs.declared.Fault.TheVariants as trace
use Rattle.vme_trace.specs.Writing.{AppendsFront}
use Rattle.vme_captures.specs.declared.signals.Entry.{Entry}
use Rattle.vme_captures.specs.declared.signals.Entry.TheVariants as entry
use Rattle.vme_captures.specs.declared.CaptureFault.{CaptureFault}
use Rattle.vme_captures.specs.declared.CaptureFault.TheVariants.{Trace, Earlier, NoPin, SameWire, NotProbed, NoChange, NoLine}
use Rattle.vme_captures.specs.declared.reader.Reader.{Reader}
use Rattle.vme_captures.specs.Feeding.{Ended, HasRead, IsFaultAfter}
use Rattle.vme_captures.specs.Reading.{read_of}
use Rattle.vme_captures.proofs.Took.{ends_absent, ends_cut, ends_whole, no_version}
use Rattle.vme_reading.specs.declared.Status.{Status}
use Rattle.vme_reading.specs.declared.Status.TheVariants.{Done, SomeRefused, Limit}
use Rattle.vme_reading.specs.declared.EngineFault.{EngineFault}
use Rattle.vme_reading.specs.declared.EngineFault.TheVariants as engine
use Rattle.vme_reading.specs.Outcomes.{scenario_limit}
use Rattle.vme_reading.specs.Streams.{IsInput, Streams, streams}
use Rattle.vme_reading.proofs.WrittenLines.{front_kept}
use Rattle.vme_samples.specs.declared.samples.SeenChange.{SeenChange}
use Rattle.vme_probe.specs.declared.judging.Known.{Known}
use Rattle.vme_probe.specs.declared.probes.Judging.{Judging}
use Rattle.vme_probe.specs.declared.probes.ProbeFault.{ProbeFault}
use Rattle.vme_probe.specs.declared.probes.ProbeFault.TheVariants as fault
use Rattle.vme_probe.specs.Knowing.{HasLines, IsStoppedAtEnd, IsUnbegun, IsWhole}
use Rattle.vme_probe.specs.Probing.{HasAllLines, IsImpossibleAtEnd, IsJudged, IsPossible, IsToWrite, JudgedBy, LentText, ProbesInput, ProbesText, StopsIn}
use Rattle.vme_probe.specs.Reads.{EndTaken, IsAt, IsNew, ReadsTo, Taken, waiting_in}
use Rattle.vme_probe.specs.Steps.{IsOfEnd, Stands, WholeWritten}
use Rattle.vme_probe.proofs.Said.{goes_on}
use Rattle.vme_probe.proofs.Reading.{judged_at_all, nothing_judged}

-- ---- the input

-- all that a reader had to give, by what was read of it
input_of : (from to : Option (List ℕ)) (read : List ℕ) → Consumes from to read → (rest : List ℕ) × IsInput from (read ++ rest)
input_of None to read h = ([], tt)
input_of (Some xs) None read h = absurd h
input_of (Some xs) (Some ys) read h = (ys, h)

input_all : (from to : Option (List ℕ)) (read : List ℕ) → Consumes from to read → IsAtEnd to → IsInput from read
input_all None to read h end = tt
input_all (Some xs) None read h end = absurd h
input_all (Some xs) (Some ys) read h end = h ∙ ap (λ (l : List ℕ). read ++ l) end ∙ append-nil read

-- nothing is read in a part of a line
module _ (p : Plan) (r : Reader) (bytes : List ℕ) (said : List Entry) (read : HasRead p r bytes said) where
  by_version : (b : Bool) → is_some r.version ≡ b → length r.part.items ≡ 0 → (read_of p bytes).entries ≡ reverse said
  by_version true is none = (ends_whole p r bytes said read none is).0
  by_version false is none = (ends_absent p r bytes said read none (no_version r.version is)).0

  by_length : (n : ℕ) → length r.part.items ≡ n → (read_of p bytes).entries ≡ reverse said
  by_length zero is = by_version (is_some r.version) refl is
  by_length (suc n) is = (ends_cut p r bytes said read (omega (arith, is))).0

  pub all_said : (read_of p bytes).entries ≡ reverse said
  all_said = by_length (length r.part.items) refl

read_memory : ◌≡◌ {A = CaptureFault} (Trace trace.Read) (Trace trace.Memory) → ⊥
read_memory h = cc

module _ (p : Plan) (skew : Option ℕ) (from to old new : Option (List ℕ)) where
  -- a read failed
  pub not_read : (now : Judging) → ReadsTo p skew now from to old new → ProbesInput skew (streams from to old new) p (Err (fault.Capture (Trace trace.Read)))
  not_read now h =
      let input = input_of from to h.bytes h.consumed in (
        h.bytes ++ input.0,
        input.1,
        (
          h.bytes,
          h.consumed,
          h.at.said,
          h.at.text,
          all_said p now.reader h.bytes h.at.said h.at.read,
          judged_at_all p skew now h.bytes old new h.at input.0,
          h.at.wrote,
        ),
      )

  -- the capture has a fault behind what was read
  module _ (bytes read : List ℕ) (input : IsInput from bytes) (consumed : Consumes from to read) (said : List Entry) (text : List ℕ) (judged : IsJudged p skew (read_of p bytes) said text)
      (wrote : Appends old new text) where
    pub faulty : (f : CaptureFault) → IsFaultAfter (read_of p bytes) said f → IsFaultAfter (read_of p read) said f → ProbesInput skew (streams from to old new) p (Err (fault.Capture f))
    faulty (Trace trace.Read) h (inl k) = (bytes, input, (read, consumed, said, text, k.0, judged, wrote))
    faulty (Trace trace.Read) h (inr k) = absurd (read_memory k.0)
    faulty (Trace trace.Header) h k = (bytes, input, (said, text, h, judged, wrote))
    faulty (Trace (trace.Line n)) h k = (bytes, input, (said, text, h, judged, wrote))
    faulty (Trace (trace.TooLong n)) h k = (bytes, input, (said, text, h, judged, wrote))
    faulty (Trace trace.CutOff) h k = (bytes, input, (said, text, h, judged, wrote))
    faulty (Trace trace.Memory) h k = (bytes, input, (said, text, h, judged, wrote))
    faulty (Trace trace.Failed) h k = (bytes, input, (said, text, h, judged, wrote))
    faulty (Trace trace.Write) h k = (bytes, input, (said, text, h, judged, wrote))
    faulty (Earlier n) h k = (bytes, input, (said, text, h, judged, wrote))
    faulty (NoPin n) h k = (bytes, input, (said, text, h, judged, wrote))
    faulty (SameWire n) h k = (bytes, input, (said, text, h, judged, wrote))
    faulty (NotProbed n) h k = (bytes, input, (said, text, h, judged, wrote))
    faulty (NoChange n) h k = (bytes, input, (said, text, h, judged, wrote))
    faulty (NoLine n) h k = (bytes, input, (said, text, h, judged, wrote))

  cut : (f : Fault) (bytes : List ℕ) → IsInput from bytes → f ≡ trace.Write → (text : List ℕ) → IsToWrite p skew (read_of p bytes) text → AppendsFront old new text
      → ProbesInput skew (streams from to old new) p (Err (fault.Engine (engine.Trace f)))
  cut f bytes input is text h wrote =
      subst (λ g. ProbesInput skew (streams from to old new) p (Err (fault.Engine (engine.Trace g)))) (sym is) (bytes, input, (text, h, wrote))

  module _ (now : Judging) (read : List ℕ) (consumed : Consumes from to read) where
    -- it is impossible at what was read
    pub stopped : (status : Status) → Taken p skew read old new now (Ok (Some status)) → ProbesInput skew (streams from to old new) p (Ok status)
    stopped status h =
        let input = input_of from to read consumed in
        subst (λ s. ProbesInput skew (streams from to old new) p (Ok s)) (sym h.0) (
          read ++ input.0,
          input.1,
          (
            read,
            consumed,
            h.1.text,
            inl (subst (λ (l : List ℕ). StopsIn p skew (read_of p l) h.1.text) (append-nil read) (h.1.stops [])),
            h.1.wrote,
          ),
        )

    -- it has a fault there, or the output has
    pub failed : (f : ProbeFault) → Taken p skew read old new now (Err f) → ProbesInput skew (streams from to old new) p (Err f)
    failed (fault.Capture f) h =
        let input = input_of from to read consumed in
        faulty (read ++ input.0) read input.1 consumed h.said h.text (h.judged input.0) h.wrote f (h.fault input.0)
        (subst (λ (l : List ℕ). IsFaultAfter (read_of p l) h.said f) (append-nil read) (h.fault []))
    failed fault.TooManyOrders h =
        let input = input_of from to read consumed in (
          read ++ input.0,
          input.1,
          (h.text, h.full input.0, h.wrote),
        )
    failed (fault.Engine (engine.Trace f)) h =
        let input = input_of from to read consumed in
        cut f (read ++ input.0) input.1 h.0 h.1.text (h.1.is input.0) h.1.wrote
    failed (fault.Engine (engine.Scenario e)) h = absurd h
    failed (fault.Engine engine.CannotRead) h = absurd h
    failed (fault.Engine engine.TooLong) h = absurd h
    failed (fault.Engine engine.NoMemory) h = absurd h
    failed (fault.Engine (engine.Beyond n)) h = absurd h

  -- ---- the end of the capture

  module _ (read : List ℕ) (consumed : Consumes from to read) (end : IsAtEnd to) where
    pub ended : (r : Result Status ProbeFault) → EndTaken p skew read old new r → ProbesInput skew (streams from to old new) p r
    ended (Ok Done) h = (read, input_all from to read consumed end, (end, h.0, h.1, h.2))
    ended (Ok SomeRefused) h = (read, input_all from to read consumed end, (read, consumed, h.0, inr (end, h.1), h.2))
    ended (Ok Limit) h = absurd h
    ended (Err (fault.Capture f)) h = faulty read read (input_all from to read consumed end) consumed h.0 h.1 h.3 h.4 f h.2 h.2
    ended (Err fault.TooManyOrders) h = absurd h
    ended (Err (fault.Engine (engine.Trace f))) h = cut f read (input_all from to read consumed end) h.0 h.1 h.2 h.3
    ended (Err (fault.Engine (engine.Scenario e))) h = absurd h
    ended (Err (fault.Engine engine.CannotRead)) h = absurd h
    ended (Err (fault.Engine engine.TooLong)) h = absurd h
    ended (Err (fault.Engine engine.NoMemory)) h = absurd h
    ended (Err (fault.Engine (engine.Beyond n))) h = absurd h

-- ---- the end

no_none : (f : CaptureFault) → ◌≡◌ {A = Option CaptureFault} (Some f) None → ⊥
no_none f h = cc

module _ (p : Plan) (r : Reader) (bytes : List ℕ) (said : List Entry) (read : HasRead p r bytes said) (whole : (read_of p bytes).fault ≡ None) where
  named_by : (n : ℕ) (o : Option Version) → length r.part.items ≡ n → r.version ≡ o → (v : Version) × (r.version ≡ Some v)
  named_by n (Some v) len is = (v, is)
  named_by zero None len is = absurd (no_none _ (sym (ends_absent p r bytes said read len is).1 ∙ whole))
  named_by (suc n) None len is = absurd (no_none _ (sym (ends_cut p r bytes said read (omega (arith, len))).1 ∙ whole))

  pub named_at_end : (v : Version) × (r.version ≡ Some v)
  named_at_end = named_by (length r.part.items) r.version refl refl

module _ (p : Plan) (skew : Option ℕ) (now : Judging) (bytes : List ℕ) (from mid : Option (List ℕ)) (h : IsAt p skew now bytes from mid) where
  judged_here : IsJudged p skew (read_of p bytes) h.said h.text
  judged_here = subst (λ (l : List ℕ). IsJudged p skew (read_of p l) h.said h.text) (append-nil bytes) (judged_at_all p skew now bytes from mid h [])

  pub end_fails : (f : CaptureFault) → Ended (read_of p bytes) h.said (Err f) → EndTaken p skew bytes from mid (Err (fault.Capture f))
  end_fails f e = (h.said, h.text, inl e, judged_here, h.wrote)

  module _ (v : Version) (named : now.reader.version ≡ Some v) where
    pub stands_at_end : Stands p skew v h.said now.known (waiting_in now.sampling) from mid
    stands_at_end = record {
      text = h.text;
      judged = subst (λ (o : Option Version). JudgedBy p skew o h.said now.known (waiting_in now.sampling) h.text) named h.judged;
      wrote = h.wrote;
    }

    module _ (whole : Ended (read_of p bytes) h.said (Ok tt)) (to : Option (List ℕ)) where
      version_is : (read_of p bytes).version ≡ Some v
      version_is =
          subst (λ (l : List ℕ). (read_of p l).version ≡ Some v) (append-nil bytes) (goes_on p now.reader bytes h.said v h.read named []).named

      possible : (text : List ℕ) → IsWhole p v skew h.said text → IsPossible p skew (read_of p bytes) text
      possible text k = record {
        version = v;
        named = version_is;
        whole = whole.1;
        said = h.said;
        are = whole.0;
        is = k;
      }

      unbegun : (text : List ℕ) → IsUnbegun p v skew h.said text ⊎ IsStoppedAtEnd p v skew h.said text → IsImpossibleAtEnd p skew (read_of p bytes) text
      unbegun text k = record {
        version = v;
        named = version_is;
        whole = whole.1;
        said = h.said;
        are = whole.0;
        is = k;
      }

      pub whole_taken : (status : Status) → WholeWritten p skew v h.said from to (Ok status) → EndTaken p skew bytes from to (Ok status)
      whole_taken Done k = (k.0, possible k.0 k.1, k.2)
      whole_taken SomeRefused k = (k.0, unbegun k.0 k.1, k.2)
      whole_taken Limit k = absurd k

      lines : (text : List ℕ) (k : Known) → HasLines p v skew h.said k text → HasAllLines p skew (read_of p bytes) text
      lines text k has = record {
        version = v;
        named = version_is;
        whole = whole.1;
        said = h.said;
        are = whole.0;
        after = k;
        has = has;
      }

      to_write : (text : List ℕ) → IsOfEnd p v skew h.said text → IsToWrite p skew (read_of p bytes) text
      to_write text (inl k) = inr (inr (inl (unbegun text (inl k))))
      to_write text (inr (inl k)) = inr (inr (inl (unbegun text (inr k))))
      to_write text (inr (inr (inl k))) = inr (inr (inr (inl (lines text k.0 k.1))))
      to_write text (inr (inr (inr k))) = inr (inr (inr (inr (possible text k))))

      pub whole_cut : (f : Fault) → WholeWritten p skew v h.said from to (Err f) → EndTaken p skew bytes from to (Err (fault.Engine (engine.Trace f)))
      whole_cut f k = (k.0, k.1, to_write k.1 k.2, k.3)

-- ---- reads

module _ (p : Plan) (skew : Option ℕ) (now : Judging) (bytes : List ℕ) (from mid to : Option (List ℕ)) where
  at_kept : IsAt p skew now bytes from mid → Keeps mid to → IsAt p skew now bytes from to
  at_kept h kept = record {
    skew_is = h.skew_is;
    said = h.said;
    read = h.read;
    text = h.text;
    judged = h.judged;
    wrote = Appends-kept from mid to h.text h.wrote kept;
  }

module _ (p : Plan) (skew : Option ℕ) (now : Judging) (from mid to old new : Option (List ℕ)) where
  -- nothing more was read
  pub reads_kept : ReadsTo p skew now from mid old new → Keeps mid to → ReadsTo p skew now from to old new
  reads_kept h kept = record { bytes = h.bytes; at = h.at; consumed = Consumes-kept from mid to h.bytes h.consumed kept }

module _ (p : Plan) (skew : Option ℕ) (now : Judging) (from to old mid new : Option (List ℕ)) where
  -- nothing more was written
  pub reads_flushed : ReadsTo p skew now from to old mid → Keeps mid new → ReadsTo p skew now from to old new
  reads_flushed h kept = record { bytes = h.bytes; at = at_kept p skew now h.bytes old mid new h.at kept; consumed = h.consumed }

  -- what was written could not be handed on
  pub unflushed : (f : Fault) → f ≡ trace.Write → ReadsTo p skew now from to old mid → Keeps mid new → ProbesInput skew (streams from to old new) p (Err (fault.Engine (engine.Trace f)))
  unflushed f is h kept =
      let input = input_of from to h.bytes h.consumed in
      cut p skew from to old new f (h.bytes ++ input.0) input.1 is h.at.text
      (inl (h.at.said, judged_at_all p skew now h.bytes old mid h.at input.0)) (front_kept old mid new h.at.text h.at.wrote kept)

pub reads_new : (p : Plan) (skew : Option ℕ) (now : Judging) (from old : Option (List ℕ)) → IsNew skew now → ReadsTo p skew now from from old old
reads_new p skew now from old h = record {
  bytes = [];
  at = record {
    skew_is = h.skew_is;
    said = [];
    read = h.read p;
    text = [];
    judged =
        subst (λ (k : Option Known). JudgedBy p skew now.reader.version [] k (waiting_in now.sampling) []) (sym h.unknown)
        (subst (λ (l : List SeenChange). JudgedBy p skew now.reader.version [] None l []) (sym h.empty) (nothing_judged p skew now.reader.version));
    wrote = Appends-nil old;
  };
  consumed = Consumes-nil from;
}

-- ---- a fault, and what was written is handed on

module _ (p : Plan) (skew : Option ℕ) (from to old mid new : Option (List ℕ)) (kept : Keeps mid new) where
  abbrev After : Option (List ℕ) → ProbeFault → Type 0
  After x f = ProbesInput skew (streams from to old x) p (Err f)

  simple : (bytes : List ℕ) (f : CaptureFault) (h : (said : List Entry) × (text : List ℕ) × IsFaultAfter (read_of p bytes) said f × IsJudged p skew (read_of p bytes) said text × Appends old mid text)
      → (said : List Entry) × (text : List ℕ) × IsFaultAfter (read_of p bytes) said f × IsJudged p skew (read_of p bytes) said text × Appends old new text
  simple bytes f h = (h.0, h.1, h.2, h.3, Appends-kept old mid new h.1 h.4 kept)

  pub fault_flushed : (f : ProbeFault) → After mid f → After new f
  fault_flushed (fault.Capture (Trace trace.Read)) h = let k = h.2 in (h.0, h.1, (k.0, k.1, k.2, k.3, k.4, k.5, Appends-kept old mid new k.3 k.6 kept))
  fault_flushed (fault.Capture (Trace trace.Header)) h = (h.0, h.1, simple h.0 (Trace trace.Header) h.2)
  fault_flushed (fault.Capture (Trace (trace.Line n))) h = (h.0, h.1, simple h.0 (Trace (trace.Line n)) h.2)
  fault_flushed (fault.Capture (Trace (trace.TooLong n))) h = (h.0, h.1, simple h.0 (Trace (trace.TooLong n)) h.2)
  fault_flushed (fault.Capture (Trace trace.CutOff)) h = (h.0, h.1, simple h.0 (Trace trace.CutOff) h.2)
  fault_flushed (fault.Capture (Trace trace.Memory)) h = (h.0, h.1, simple h.0 (Trace trace.Memory) h.2)
  fault_flushed (fault.Capture (Trace trace.Failed)) h = (h.0, h.1, simple h.0 (Trace trace.Failed) h.2)
  fault_flushed (fault.Capture (Trace trace.Write)) h = (h.0, h.1, simple h.0 (Trace trace.Write) h.2)
  fault_flushed (fault.Capture (Earlier n)) h = (h.0, h.1, simple h.0 (Earlier n) h.2)
  fault_flushed (fault.Capture (NoPin n)) h = (h.0, h.1, simple h.0 (NoPin n) h.2)
  fault_flushed (fault.Capture (SameWire n)) h = (h.0, h.1, simple h.0 (SameWire n) h.2)
  fault_flushed (fault.Capture (NotProbed n)) h = (h.0, h.1, simple h.0 (NotProbed n) h.2)
  fault_flushed (fault.Capture (NoChange n)) h = (h.0, h.1, simple h.0 (NoChange n) h.2)
  fault_flushed (fault.Capture (NoLine n)) h = (h.0, h.1, simple h.0 (NoLine n) h.2)
  fault_flushed fault.TooManyOrders h = let k = h.2 in (h.0, h.1, (k.0, k.1, Appends-kept old mid new k.0 k.2 kept))
  fault_flushed (fault.Engine (engine.Trace trace.Write)) h = let k = h.2 in (h.0, h.1, (k.0, k.1, front_on k.0 k.2))
    where
      front_on : (text : List ℕ) → AppendsFront old mid text → AppendsFront old new text
      front_on text k = (k.0, k.1, k.2, Appends-kept old mid new k.0 k.3 kept)
  fault_flushed (fault.Engine (engine.Trace trace.Read)) h = absurd h.2
  fault_flushed (fault.Engine (engine.Trace trace.Header)) h = absurd h.2
  fault_flushed (fault.Engine (engine.Trace (trace.Line n))) h = absurd h.2
  fault_flushed (fault.Engine (engine.Trace (trace.TooLong n))) h = absurd h.2
  fault_flushed (fault.Engine (engine.Trace trace.CutOff)) h = absurd h.2
  fault_flushed (fault.Engine (engine.Trace trace.Memory)) h = absurd h.2
  fault_flushed (fault.Engine (engine.Trace trace.Failed)) h = absurd h.2
  fault_flushed (fault.Engine (engine.Scenario e)) h = absurd h.2
  fault_flushed (fault.Engine engine.CannotRead) h = absurd h.2
  fault_flushed (fault.Engine engine.TooLong) h = absurd h.2
  fault_flushed (fault.Engine engine.NoMemory) h = absurd h.2
  fault_flushed (fault.Engine (engine.Beyond n)) h = absurd h.2

  -- it could not be handed on
  judged_cut : (g : Fault) → g ≡ trace.Write → (bytes : List ℕ) → IsInput from bytes → (said : List Entry) (text : List ℕ) → IsJudged p skew (read_of p bytes) said text → Appends old mid text
      → After new (fault.Engine (engine.Trace g))
  judged_cut g is bytes input said text judged wrote = cut p skew from to old new g bytes input is text (inl (said, judged)) (front_kept old mid new text wrote kept)

  pub fault_cut : (g : Fault) → g ≡ trace.Write → (f : ProbeFault) → After mid f → After new (fault.Engine (engine.Trace g))
  fault_cut g is (fault.Capture (Trace trace.Read)) h = let k = h.2 in judged_cut g is h.0 h.1 k.2 k.3 k.5 k.6
  fault_cut g is (fault.Capture (Trace trace.Header)) h = let k = h.2 in judged_cut g is h.0 h.1 k.0 k.1 k.3 k.4
  fault_cut g is (fault.Capture (Trace (trace.Line n))) h = let k = h.2 in judged_cut g is h.0 h.1 k.0 k.1 k.3 k.4
  fault_cut g is (fault.Capture (Trace (trace.TooLong n))) h = let k = h.2 in judged_cut g is h.0 h.1 k.0 k.1 k.3 k.4
  fault_cut g is (fault.Capture (Trace trace.CutOff)) h = let k = h.2 in judged_cut g is h.0 h.1 k.0 k.1 k.3 k.4
  fault_cut g is (fault.Capture (Trace trace.Memory)) h = let k = h.2 in judged_cut g is h.0 h.1 k.0 k.1 k.3 k.4
  fault_cut g is (fault.Capture (Trace trace.Failed)) h = let k = h.2 in judged_cut g is h.0 h.1 k.0 k.1 k.3 k.4
  fault_cut g is (fault.Capture (Trace trace.Write)) h = let k = h.2 in judged_cut g is h.0 h.1 k.0 k.1 k.3 k.4
  fault_cut g is (fault.Capture (Earlier n)) h = let k = h.2 in judged_cut g is h.0 h.1 k.0 k.1 k.3 k.4
  fault_cut g is (fault.Capture (NoPin n)) h = let k = h.2 in judged_cut g is h.0 h.1 k.0 k.1 k.3 k.4
  fault_cut g is (fault.Capture (SameWire n)) h = let k = h.2 in judged_cut g is h.0 h.1 k.0 k.1 k.3 k.4
  fault_cut g is (fault.Capture (NotProbed n)) h = let k = h.2 in judged_cut g is h.0 h.1 k.0 k.1 k.3 k.4
  fault_cut g is (fault.Capture (NoChange n)) h = let k = h.2 in judged_cut g is h.0 h.1 k.0 k.1 k.3 k.4
  fault_cut g is (fault.Capture (NoLine n)) h = let k = h.2 in judged_cut g is h.0 h.1 k.0 k.1 k.3 k.4
  fault_cut g is fault.TooManyOrders h =
      let k = h.2 in
      judged_cut g is h.0 h.1 k.1.said k.0 (record {
        others = entry.Change k.1.next ∷ k.1.others;
        are = k.1.are;
        known = Some k.1.is.known;
        waits = k.1.is.waiting;
        judged = subst (λ (o : Option Version). JudgedBy p skew o k.1.said (Some k.1.is.known) k.1.is.waiting k.0) (sym k.1.named) k.1.is.judged;
      }) k.2
  fault_cut g is (fault.Engine f) h =
      let k = fault_flushed (fault.Engine f) h in written_cut f k
    where
      written_cut : (f : EngineFault) → After new (fault.Engine f) → After new (fault.Engine (engine.Trace g))
      written_cut (engine.Trace trace.Write) k = subst (λ x. After new (fault.Engine (engine.Trace x))) (sym is) k
      written_cut (engine.Trace trace.Read) k = absurd k.2
      written_cut (engine.Trace trace.Header) k = absurd k.2
      written_cut (engine.Trace (trace.Line n)) k = absurd k.2
      written_cut (engine.Trace (trace.TooLong n)) k = absurd k.2
      written_cut (engine.Trace trace.CutOff) k = absurd k.2
      written_cut (engine.Trace trace.Memory) k = absurd k.2
      written_cut (engine.Trace trace.Failed) k = absurd k.2
      written_cut (engine.Scenario e) k = absurd k.2
      written_cut engine.CannotRead k = absurd k.2
      written_cut engine.TooLong k = absurd k.2
      written_cut engine.NoMemory k = absurd k.2
      written_cut (engine.Beyond n) k = absurd k.2

-- ---- the scenario

module _ (text : List ℕ) (nothing : Type 0) (skew : Option ℕ) (s : Streams) (p : Plan) (short : length text ≤ scenario_limit) (is : scenario text ≡ Ok p) where
  pub lent : (answer : Result Status ProbeFault) → ProbesText skew s p answer → LentText text nothing (ProbesText skew s) answer
  lent (Ok status) h = (p, short, is, h)
  lent (Err (fault.Capture f)) h = (p, short, is, h)
  lent (Err fault.TooManyOrders) h = (p, short, is, h)
  lent (Err (fault.Engine (engine.Scenario e))) h = absurd h.2
  lent (Err (fault.Engine (engine.Trace f))) h = (p, short, is, h)
  lent (Err (fault.Engine engine.CannotRead)) h = (p, short, is, h)
  lent (Err (fault.Engine engine.TooLong)) h = absurd h.2
  lent (Err (fault.Engine engine.NoMemory)) h = (p, short, is, h)
  lent (Err (fault.Engine (engine.Beyond n))) h = (p, short, is, h)
