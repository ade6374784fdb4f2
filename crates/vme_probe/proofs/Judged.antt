-- What is known and written, one thing that was said after the other.
use Rattle.std.proofs.Common.{◌≡◌, ◌⊎◌, ◌∙◌, ◌++◌, ◌∷◌, [], ℕ, Bool, true, false, List, Option, Some, None, Result, Ok, Err, is_some, length, refl, sym, ap, subst, inl, inr, append-nil, arith}
use Rattle.std.specs.Io.KnownBytes.{Appends, Keeps}
use Rattle.std.proofs.KnownBytes.{Appends-trans, Appends-kept, Appends-nil, Keeps-refl}
use Rattle.vme_model.specs.declared.signals.Version.{Version}
use Rattle.vme_model.specs.Plan.{Plan}
use Rattle.vme_trace.specs.declared.Fault.{Fault}
use Rattle.vme_trace.specs.declared.Fault.TheVariants as trace
use Rattle.vme_trace.specs.Writing.{AppendsFront}
use Rattle.vme_trace.proofs.WrittenLines.{second_front}
use Rattle.vme_captures.specs.declared.signals.Change.{Change}
use Rattle.vme_captures.specs.declared.signals.Entry.{Entry}
use Rattle.vme_captures.specs.declared.signals.Entry.TheVariants as entry
use Rattle.vme_captures.specs.declared.CaptureFault.{CaptureFault}
use Rattle.vme_captures.specs.declared.reader.Reader.{Reader}
use Rattle.vme_captures.specs.Feeding.{HasRead}
use Rattle.vme_captures.specs.Reading.{last_moment, may_stand}
use Rattle.vme_reading.specs.declared.EngineFault.{EngineFault}
use Rattle.vme_reading.specs.declared.EngineFault.TheVariants as engine
use Rattle.vme_reading.specs.declared.Status.{Status}
use Rattle.vme_reading.specs.declared.Status.TheVariants.{SomeRefused}
use Rattle.vme_samples.specs.declared.samples.SeenChange.{SeenChange}
use Rattle.vme_samples.specs.Samples.{joins}
use Rattle.vme_probe.specs.declared.probes.ProbeFault.{ProbeFault}
use Rattle.vme_probe.specs.declared.probes.ProbeFault.TheVariants as fault
use Rattle.vme_probe.specs.declared.judging.Known.{Known}
use Rattle.vme_probe.specs.Knowing.{Begun, Judged, StopsNext, TakesNext, no_beginning, seen_at}
use Rattle.vme_probe.specs.Lines.{change_line}
use Rattle.vme_probe.specs.declared.samplings.Sampling.{Sampling}
use Rattle.vme_probe.specs.Reads.{waiting_in}
use Rattle.vme_probe.proofs.Said.{all_read, said_stands}
use Rattle.vme_probe.specs.Steps.{EntryTaken, HeadTaken, IsOfChange, IsOfEntry, IsOfSample, NextTaken, Pushed, SampleTaken, SeenTaken, Stands}

none_known : (k : Known) → ◌≡◌ {A = Option Known} None (Some k) → ⊥
none_known k h = cc

false_true : ◌≡◌ {A = Bool} false true → ⊥
false_true h = cc

-- nothing is known only while no moment was said
pub begun : (p : Plan) (v : Version) (skew : Option ℕ) (said : List Entry) (waits : List SeenChange) (text : List ℕ) → Judged p v skew said None waits text → last_moment said ≡ None
begun p v skew [] waits text h = refl
begun p v skew (entry.Pin q ∷ said) waits text h = begun p v skew said waits text h
begun p v skew (entry.Running ∷ said) waits text h = begun p v skew said waits text h
begun p v skew (entry.Low x ∷ said) waits text h = begun p v skew said waits text h
begun p v skew (entry.Moment m ∷ said) waits text h = absurd (none_known h.1 h.4)
begun p v skew (entry.Change c ∷ said) waits text h = absurd (none_known h.3 h.6)

-- and nothing waits then
pub nothing_waits : (p : Plan) (v : Version) (skew : Option ℕ) (said : List Entry) (waits : List SeenChange) (text : List ℕ) → Judged p v skew said None waits text → waits ≡ []
nothing_waits p v skew [] waits text h = h.1
nothing_waits p v skew (entry.Pin q ∷ said) waits text h = nothing_waits p v skew said waits text h
nothing_waits p v skew (entry.Running ∷ said) waits text h = nothing_waits p v skew said waits text h
nothing_waits p v skew (entry.Low x ∷ said) waits text h = nothing_waits p v skew said waits text h
nothing_waits p v skew (entry.Moment m ∷ said) waits text h = absurd (none_known h.1 h.4)
nothing_waits p v skew (entry.Change c ∷ said) waits text h = absurd (none_known h.3 h.6)

-- so it is no change that comes next
pub no_change : (p : Plan) (v : Version) (skew : Option ℕ) (said : List Entry) (c : Change) (waits : List SeenChange) (text : List ℕ) → may_stand said (entry.Change c) ≡ true
    → Judged p v skew said None waits text → ⊥
no_change p v skew said c waits text may h = false_true (ap (λ (o : Option ℕ). is_some o) (sym (begun p v skew said waits text h)) ∙ may)

-- ---- a change that was taken in

both_ways : (b : Bool) → b ≡ true → b ≡ false → ⊥
both_ways b on off = false_true (sym off ∙ on)

-- it belongs to the sample that waits
pub joined_taken : (p : Plan) (skew : ℕ) (waiting : List SeenChange) (s : SeenChange) (known : Known) (waits : List SeenChange) (from : Option (List ℕ)) (r : Result (Option Status) ProbeFault)
    → joins skew waiting s.moment ≡ true → Pushed s waiting waits r → SeenTaken p skew waiting s known known waits from from r
joined_taken p skew waiting s known waits from (Ok None) on h = (
  [],
  λ before. record {
    joined = λ _. (h.0, h.1, refl, append-nil before);
    complete = λ off. absurd (both_ways (joins skew waiting s.moment) on off);
  },
  Appends-nil from,
)
joined_taken p skew waiting s known waits from (Ok (Some status)) on h = absurd h
joined_taken p skew waiting s known waits from (Err fault.TooManyOrders) on h = (on, h, Keeps-refl from)
joined_taken p skew waiting s known waits from (Err (fault.Capture f)) on h = absurd h
joined_taken p skew waiting s known waits from (Err (fault.Engine f)) on h = absurd h

none_full : ◌≡◌ {A = ℕ} 0 12 → ⊥
none_full h = omega (arith, h)

-- the sample that waited was complete, and was judged
pub completed_taken : (p : Plan) (skew : ℕ) (waiting : List SeenChange) (s : SeenChange) (old new : Known) (none waits : List SeenChange) (from to : Option (List ℕ))
    (r : Result (Option Status) ProbeFault) → joins skew waiting s.moment ≡ false → none ≡ [] → SampleTaken p waiting old new from to (Ok None) → Pushed s none waits r
    → SeenTaken p skew waiting s old new waits from to r
completed_taken p skew waiting s old new none waits from to (Ok None) off is t h = (
  t.0,
  λ before. record {
    joined = λ on. absurd (both_ways (joins skew waiting s.moment) on off);
    complete = λ _. (t.0, t.1, h.1 ∙ ap (λ (l : List SeenChange). l ++ s ∷ []) is, refl);
  },
  t.2,
)
completed_taken p skew waiting s old new none waits from to (Ok (Some status)) off is t h = absurd h
completed_taken p skew waiting s old new none waits from to (Err fault.TooManyOrders) off is t h = absurd (none_full (sym (ap (λ (l : List SeenChange). length l) is) ∙ h))
completed_taken p skew waiting s old new none waits from to (Err (fault.Capture f)) off is t h = absurd h
completed_taken p skew waiting s old new none waits from to (Err (fault.Engine f)) off is t h = absurd h

-- what its lines say, whatever was written before
next_written : (p : Plan) (skew : Option ℕ) (waiting : List SeenChange) (s : SeenChange) (old new : Known) (waits : List SeenChange) (from to : Option (List ℕ))
    → NextTaken p skew waiting s old new waits from to (Ok None)
    → (text : List ℕ) × ((lines : List ℕ) → TakesNext p skew lines old waiting s new waits (lines ++ text)) × Appends from to text
next_written p None waiting s old new waits from to t = (
  change_line s.moment s.change t.1.0,
  λ lines. (record { drivers = t.1.0; follows = t.1.1; is = refl }, t.0),
  t.1.2,
)
next_written p (Some skew) waiting s old new waits from to t = t

next_stopped : (p : Plan) (skew : Option ℕ) (waiting : List SeenChange) (s : SeenChange) (old new : Known) (waits : List SeenChange) (from to : Option (List ℕ)) (status : Status)
    → NextTaken p skew waiting s old new waits from to (Ok (Some status))
    → (text : List ℕ) × StopsNext p skew old waiting s text × Appends from to text × (status ≡ SomeRefused)
next_stopped p None waiting s old new waits from to status t = t.1
next_stopped p (Some skew) waiting s old new waits from to status t = (t.1, (t.0, t.2), t.3, t.4)

-- what is to be written of it, behind these lines
abbrev IsOfNext : Plan → Option ℕ → List SeenChange → SeenChange → Known → List ℕ → List ℕ → Type 0
IsOfNext p skew waiting s old lines text =
    ((k : Known) × (waits : List SeenChange) × TakesNext p skew lines old waiting s k waits (lines ++ text))
    ⊎ StopsNext p skew old waiting s text

of_next : (p : Plan) (waiting : List SeenChange) (s : SeenChange) (old : Known) (lines text : List ℕ) → IsOfChange p old s.moment s.change text → IsOfNext p None waiting s old lines text
of_next p waiting s old lines text (inl h) = inl (h.0, [], (record { drivers = h.1; follows = h.2; is = ap (λ (l : List ℕ). lines ++ l) h.3 }, refl))
of_next p waiting s old lines text (inr h) = inr h

of_completed : (p : Plan) (skew : ℕ) (waiting : List SeenChange) (s : SeenChange) (old : Known) (lines text : List ℕ) → joins skew waiting s.moment ≡ false → IsOfSample p old waiting text
    → IsOfNext p (Some skew) waiting s old lines text
of_completed p skew waiting s old lines text apart (inl h) =
    inl (h.0, s ∷ [], record { joined = λ on. absurd (both_ways (joins skew waiting s.moment) on apart); complete = λ off. (text, h.1, refl, refl) })
of_completed p skew waiting s old lines text apart (inr h) = inr (apart, h)

next_cut : (p : Plan) (skew : Option ℕ) (waiting : List SeenChange) (s : SeenChange) (old new : Known) (waits : List SeenChange) (from to : Option (List ℕ)) (f : Fault)
    → NextTaken p skew waiting s old new waits from to (Err (fault.Engine (engine.Trace f)))
    → (f ≡ trace.Write) × (text : List ℕ) × ((lines : List ℕ) → IsOfNext p skew waiting s old lines text) × AppendsFront from to text
next_cut p None waiting s old new waits from to f t = (t.0, t.1, λ lines. of_next p waiting s old lines t.1 t.2, t.3)
next_cut p (Some skew) waiting s old new waits from to f t = (t.0, t.1, λ lines. of_completed p skew waiting s old lines t.1 t.2.0 t.2.1, t.3)

next_full : (p : Plan) (skew : Option ℕ) (waiting : List SeenChange) (s : SeenChange) (old new : Known) (waits : List SeenChange) (from to : Option (List ℕ))
    → NextTaken p skew waiting s old new waits from to (Err fault.TooManyOrders)
    → (most : ℕ) × (skew ≡ Some most) × (joins most waiting s.moment ≡ true) × (length waiting ≡ 12) × Keeps from to
next_full p None waiting s old new waits from to t = absurd t
next_full p (Some skew) waiting s old new waits from to t = (skew, refl, t.0, t.1, t.2)

no_capture : (p : Plan) (skew : Option ℕ) (waiting : List SeenChange) (s : SeenChange) (old new : Known) (waits : List SeenChange) (from to : Option (List ℕ)) (f : CaptureFault)
    → NextTaken p skew waiting s old new waits from to (Err (fault.Capture f)) → ⊥
no_capture p None waiting s old new waits from to f t = t
no_capture p (Some skew) waiting s old new waits from to f t = t

-- of the faults of an engine that of the output alone comes
no_other : (p : Plan) (skew : Option ℕ) (waiting : List SeenChange) (s : SeenChange) (old new : Known) (waits : List SeenChange) (from to : Option (List ℕ)) (f : EngineFault)
    → NextTaken p skew waiting s old new waits from to (Err (fault.Engine f)) → (g : Fault) × (f ≡ engine.Trace g)
no_other p skew waiting s old new waits from to (engine.Trace f) t = (f, refl)
no_other p None waiting s old new waits from to (engine.Scenario e) t = absurd t
no_other p None waiting s old new waits from to engine.CannotRead t = absurd t
no_other p None waiting s old new waits from to engine.TooLong t = absurd t
no_other p None waiting s old new waits from to engine.NoMemory t = absurd t
no_other p None waiting s old new waits from to (engine.Beyond n) t = absurd t
no_other p (Some skew) waiting s old new waits from to (engine.Scenario e) t = absurd t
no_other p (Some skew) waiting s old new waits from to engine.CannotRead t = absurd t
no_other p (Some skew) waiting s old new waits from to engine.TooLong t = absurd t
no_other p (Some skew) waiting s old new waits from to engine.NoMemory t = absurd t
no_other p (Some skew) waiting s old new waits from to (engine.Beyond n) t = absurd t

module _ (p : Plan) (skew : Option ℕ) (v : Version) (said : List Entry) where
  -- ---- a change

  module _ (c : Change) (before : Known) (waiting : List SeenChange) (from mid to : Option (List ℕ)) (s : Stands p skew v said (Some before) waiting from mid) where
    module _ (new : Known) (now : Option Known) (waits : List SeenChange) (at : SeenChange) (is : at ≡ seen_at said c) where
      pub change_taken : (o : Option Status) → now ≡ Some new → NextTaken p skew waiting at before new waits mid to (Ok o) → EntryTaken p skew v said (entry.Change c) now waits from to (Ok o)
      change_taken None known t =
          let w = next_written p skew waiting at before new waits mid to t in record {
            text = s.text ++ w.0;
            judged = (
              before,
              waiting,
              s.text,
              new,
              s.judged,
              subst (λ (x : SeenChange). TakesNext p skew s.text before waiting x new waits (s.text ++ w.0)) is (w.1 s.text),
              known,
            );
            wrote = Appends-trans from mid to s.text w.0 s.wrote w.2;
          }
      change_taken (Some status) known t =
          let w = next_stopped p skew waiting at before new waits mid to status t in (
            s.text ++ w.0,
            (before, waiting, s.text, w.0, s.judged, subst (λ (x : SeenChange). StopsNext p skew before waiting x w.0) is w.1, refl),
            Appends-trans from mid to s.text w.0 s.wrote w.2,
            w.3,
          )

      of_entry : (text : List ℕ) → IsOfNext p skew waiting at before s.text text → IsOfEntry p skew v said (entry.Change c) (s.text ++ text)
      of_entry text (inl h) = inl (
        Some h.0,
        h.1,
        (
          before,
          waiting,
          s.text,
          h.0,
          s.judged,
          subst (λ (x : SeenChange). TakesNext p skew s.text before waiting x h.0 h.1 (s.text ++ text)) is h.2,
          refl,
        ),
      )
      of_entry text (inr h) = inr (before, waiting, s.text, text, s.judged, subst (λ (x : SeenChange). StopsNext p skew before waiting x text) is h, refl)

      cut_entry : (f : Fault) → NextTaken p skew waiting at before new waits mid to (Err (fault.Engine (engine.Trace f)))
          → EntryTaken p skew v said (entry.Change c) now waits from to (Err (fault.Engine (engine.Trace f)))
      cut_entry f t =
          let w = next_cut p skew waiting at before new waits mid to f t in
          (w.0, s.text ++ w.1, of_entry w.1 (w.2 s.text), second_front from mid to s.text w.1 s.wrote w.3)

      pub change_fails : (f : ProbeFault) → NextTaken p skew waiting at before new waits mid to (Err f) → EntryTaken p skew v said (entry.Change c) now waits from to (Err f)
      change_fails (fault.Capture f) t = absurd (no_capture p skew waiting at before new waits mid to f t)
      change_fails fault.TooManyOrders t =
          let w = next_full p skew waiting at before new waits mid to t in (
            s.text,
            record {
              most = w.0;
              skew_is = w.1;
              known = before;
              waiting = waiting;
              judged = s.judged;
              joined = subst (λ (x : SeenChange). joins w.0 waiting x.moment ≡ true) is w.2;
              full = w.3;
            },
            Appends-kept from mid to s.text s.wrote w.4,
          )
      change_fails (fault.Engine f) t =
          let w = no_other p skew waiting at before new waits mid to f t in
          subst (λ (x : EngineFault). EntryTaken p skew v said (entry.Change c) now waits from to (Err (fault.Engine x))) (sym w.1)
          (cut_entry w.0 (subst (λ (x : EngineFault). NextTaken p skew waiting at before new waits mid to (Err (fault.Engine x))) w.1 t))

  -- ---- the first moment

  module _ (m : ℕ) (waits : List SeenChange) (from mid to : Option (List ℕ)) (s : Stands p skew v said None waits from mid) where
    pub head_ended : (now : Option Known) (o : Option Status) → HeadTaken p v (entry.Moment m ∷ said) now mid to (Ok o) → EntryTaken p skew v said (entry.Moment m) now waits from to (Ok o)
    head_ended now None h = record {
      text = s.text;
      judged = (None, h.0, s.judged, h.2, h.1);
      wrote = Appends-kept from mid to s.text s.wrote h.3;
    }
    head_ended now (Some status) h = (
      s.text ++ no_beginning,
      (waits, s.text, s.judged, h.0, refl),
      Appends-trans from mid to s.text no_beginning s.wrote h.1,
      h.2,
    )

    pub head_fails : (now : Option Known) (f : Fault) → HeadTaken p v (entry.Moment m ∷ said) now mid to (Err f)
        → EntryTaken p skew v said (entry.Moment m) now waits from to (Err (fault.Engine (engine.Trace f)))
    head_fails now f h = (
      h.0,
      s.text ++ no_beginning,
      inr (waits, s.text, s.judged, h.1, refl),
      second_front from mid to s.text no_beginning s.wrote h.2,
    )

  -- ---- a later moment

  pub moment_later : (m : ℕ) (k : Known) (known : Option Known) (waits : List SeenChange) (from to : Option (List ℕ)) → known ≡ Some k → Stands p skew v said known waits from to
      → EntryTaken p skew v said (entry.Moment m) known waits from to (Ok None)
  moment_later m k known waits from to is s = record {
    text = s.text;
    judged = (known, k, s.judged, subst (λ (x : Option Known). Begun p v said x k) (sym is) refl, is);
    wrote = s.wrote;
  }

-- something is known before a change that was read
pub change_known : (p : Plan) (skew : Option ℕ) (v : Version) (r : Reader) (bytes : List ℕ) (said : List Entry) (c : Change) (known : Option Known) (waits : List SeenChange) (text : List ℕ)
    → HasRead p r bytes (entry.Change c ∷ said) → r.version ≡ Some v → Judged p v skew said known waits text → known ≡ None → ⊥
change_known p skew v r bytes said c known waits text read named judged none =
    no_change p v skew said c waits text
    (said_stands p said (entry.Change c) (all_read p r bytes (entry.Change c ∷ said) v read named).0)
    (subst (λ (k : Option Known). Judged p v skew said k waits text) none judged)

-- the same is known, and as much waits
pub stands_on : (p : Plan) (skew : Option ℕ) (v : Version) (said : List Entry) (known : Option Known) (old new : Option Sampling) (from to : Option (List ℕ)) → known ≡ None → new ≡ old
    → Stands p skew v said known (waiting_in old) from to → Stands p skew v said None (waiting_in new) from to
stands_on p skew v said known old new from to none same s =
    subst (λ (x : Option Sampling). Stands p skew v said None (waiting_in x) from to) (sym same)
    (subst (λ (k : Option Known). Stands p skew v said k (waiting_in old) from to) none s)
