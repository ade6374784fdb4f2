-- A capture is read byte by byte, and judged as it comes.
use Rattle.std.proofs.Common.{◌≡◌, ◌∙◌, ◌++◌, ◌∷◌, [], ℕ, List, Option, Some, None, Ok, Err, reverse, refl, sym, ap, subst, inl, inr, append_assoc, append-nil}
use Rattle.std.proofs.lemmas.Option.{same_Some}
use Rattle.vme_model.specs.declared.signals.Version.{Version}
use Rattle.vme_model.specs.Plan.{Plan}
use Rattle.vme_trace.specs.declared.Fault.TheVariants as trace
use Rattle.vme_captures.specs.declared.signals.Change.{Change}
use Rattle.vme_captures.specs.declared.signals.Entry.{Entry}
use Rattle.vme_captures.specs.declared.signals.Entry.TheVariants as entry
use Rattle.vme_captures.specs.declared.CaptureFault.{CaptureFault}
use Rattle.vme_captures.specs.declared.reader.Reader.{Reader}
use Rattle.vme_captures.specs.Feeding.{HasRead, IsFaultAfter}
use Rattle.vme_captures.specs.Reading.{read_of}
use Rattle.vme_reading.specs.declared.Status.{Status}
use Rattle.vme_reading.specs.declared.EngineFault.TheVariants as engine
use Rattle.vme_samples.specs.declared.samples.SeenChange.{SeenChange}
use Rattle.vme_probe.specs.declared.judging.Known.{Known}
use Rattle.vme_probe.specs.declared.probes.Judging.{Judging}
use Rattle.vme_probe.specs.declared.probes.ProbeFault.{ProbeFault}
use Rattle.vme_probe.specs.declared.probes.ProbeFault.TheVariants as fault
use Rattle.vme_probe.specs.Knowing.{Judged, StopsAt}
use Rattle.vme_probe.specs.Probing.{IsJudged, IsOverfullIn, IsToWrite, JudgedBy, StopsIn}
use Rattle.vme_probe.specs.Reads.{Fails, IsAt, IsCut, IsFull, IsStopped, Taken, skew_of, waiting_in}
use Rattle.vme_probe.specs.Steps.{EntryTaken, IsOfEntry, IsOverfullAt, Stands}
use Rattle.vme_probe.proofs.Said.{goes_on, onto}

pub nothing_judged : (p : Plan) (skew : Option ℕ) (o : Option Version) → JudgedBy p skew o [] None [] []
nothing_judged p skew None = (refl, refl, refl)
nothing_judged p skew (Some v) = (refl, refl, refl)

unjudged : (p : Plan) (skew : Option ℕ) (o : Option Version) (said : List Entry) (known : Option Known) (waits : List SeenChange) (text : List ℕ) → said ≡ [] → known ≡ None → waits ≡ [] → text ≡ []
    → JudgedBy p skew o said known waits text
unjudged p skew o said known waits text s k w t =
    subst (λ (l : List Entry). JudgedBy p skew o l known waits text) (sym s)
    (subst (λ (x : Option Known). JudgedBy p skew o [] x waits text) (sym k)
    (subst (λ (l : List SeenChange). JudgedBy p skew o [] None l text) (sym w)
    (subst (λ (l : List ℕ). JudgedBy p skew o [] None [] l) (sym t) (nothing_judged p skew o))))

nothing_by : (p : Plan) (skew : Option ℕ) (w : Version) (said : List Entry) (known : Option Known) (waits : List SeenChange) (text : List ℕ) → said ≡ [] → Judged p w skew said known waits text
    → (known ≡ None) × (waits ≡ []) × (text ≡ [])
nothing_by p skew w said known waits text s h = subst (λ (l : List Entry). Judged p w skew l known waits text) s h

module _ (p : Plan) (skew : Option ℕ) (old : Reader) (bytes : List ℕ) (said : List Entry) (read : HasRead p old bytes said) (known : Option Known) (waits : List SeenChange) (text : List ℕ) where
  -- what follows has the version that was read
  same_version : (w : Version) → old.version ≡ Some w → (more : List ℕ) → (read_of p (bytes ++ more)).version ≡ Some w
  same_version w is more = (goes_on p old bytes said w read is more).named

  -- behind more bytes, that of the version read there
  module _ (judged : JudgedBy p skew old.version said known waits text) where
    judged_at_from : (o : Option Version) → old.version ≡ o → JudgedBy p skew o said known waits text → (new : Reader) (more : List ℕ) (said_new : List Entry) (v : Version)
        → HasRead p new (bytes ++ more) said_new → new.version ≡ Some v
        → Judged p v skew said known waits text
    judged_at_from None is h new more said_new v later named = unjudged p skew (Some v) said known waits text (read.start is).1 h.0 h.1 h.2
    judged_at_from (Some w) is h new more said_new v later named =
        let first = same_version w is (more ++ []) in
        let second = (goes_on p new (bytes ++ more) said_new v later named []).named in
        let same : w ≡ v =
        same_Some w v (sym first ∙ ap (λ (l : List ℕ). (read_of p l).version) (sym (append_assoc bytes more [])) ∙ second) in
        subst (λ x. Judged p x skew said known waits text) same h

    pub judged_at : (new : Reader) (more : List ℕ) (said_new : List Entry) (v : Version) → HasRead p new (bytes ++ more) said_new → new.version ≡ Some v → Judged p v skew said known waits text
    judged_at new more said_new v later named = judged_at_from old.version refl judged new more said_new v later named

    nothing_left : (o : Option Version) → old.version ≡ o → JudgedBy p skew o said known waits text → said ≡ [] → (known ≡ None) × (waits ≡ []) × (text ≡ [])
    nothing_left None is h s = h
    nothing_left (Some w) is h s = nothing_by p skew w said known waits text s h

    judged_on_to : (new : Reader) (more : List ℕ) → HasRead p new (bytes ++ more) said → (o : Option Version) → new.version ≡ o → JudgedBy p skew o said known waits text
    judged_on_to new more later None is = nothing_left old.version refl judged (later.start is).1
    judged_on_to new more later (Some v) is = judged_at new more said v later is

    pub judged_on : (new : Reader) (more : List ℕ) → HasRead p new (bytes ++ more) said → JudgedBy p skew new.version said known waits text
    judged_on new more later = judged_on_to new more later new.version refl

    -- at a fault behind them
    judged_before : (o : Option Version) → old.version ≡ o → JudgedBy p skew o said known waits text → (more : List ℕ) → JudgedBy p skew (read_of p (bytes ++ more)).version said known waits text
    judged_before None is h more = unjudged p skew (read_of p (bytes ++ more)).version said known waits text (read.start is).1 h.0 h.1 h.2
    judged_before (Some w) is h more = subst (λ (x : Option Version). JudgedBy p skew x said known waits text) (sym (same_version w is more)) h

    pub judged_up_to : (more : List ℕ) (f : CaptureFault) → IsFaultAfter (read_of p (bytes ++ more)) said f → IsJudged p skew (read_of p (bytes ++ more)) said text
    judged_up_to more f (inl h) = record {
      others = [];
      are = h.0 ∙ sym (append-nil (reverse said));
      known = known;
      waits = waits;
      judged = judged_before old.version refl judged more;
    }
    judged_up_to more f (inr h) = record {
      others = _;
      are = h.1.are;
      known = known;
      waits = waits;
      judged = judged_before old.version refl judged more;
    }

-- ---- what a reader says of an entry that was read

module _ (p : Plan) (skew : Option ℕ) (now : Judging) (bytes : List ℕ) (said : List Entry) (e : Entry) (v : Version) (read : HasRead p now.reader bytes (e ∷ said))
    (named : now.reader.version ≡ Some v) (same : skew_of now.sampling ≡ skew) (from to : Option (List ℕ)) where
  next_are : (more : List ℕ) → (others : List Entry) × ((read_of p (bytes ++ more)).entries ≡ reverse said ++ (e ∷ others))
  next_are more = let goes = goes_on p now.reader bytes (e ∷ said) v read named more in (goes.others, goes.are ∙ onto e said goes.others)

  stops_in : (text : List ℕ) → StopsAt p v skew said e text → (more : List ℕ) → StopsIn p skew (read_of p (bytes ++ more)) text
  stops_in text h more =
      let are = next_are more in
      record {
        version = v;
        named = (goes_on p now.reader bytes (e ∷ said) v read named more).named;
        said = said;
        next = e;
        others = are.0;
        are = are.1;
        stops = h;
      }

  to_write : (text : List ℕ) → IsOfEntry p skew v said e text → (more : List ℕ) → IsToWrite p skew (read_of p (bytes ++ more)) text
  to_write text (inl h) more =
      let goes = goes_on p now.reader bytes (e ∷ said) v read named more in
      inl (
        e ∷ said,
        record {
          others = goes.others;
          are = goes.are;
          known = h.0;
          waits = h.1;
          judged = subst (λ (x : Option Version). JudgedBy p skew x (e ∷ said) h.0 h.1 text) (sym goes.named) h.2;
        },
      )
  to_write text (inr h) more = inr (inl (stops_in text h more))

  full_at : (d : Entry) → e ≡ d → (text : List ℕ) → IsOverfullAt p skew v said d text → (more : List ℕ) → IsOverfullIn p skew (read_of p (bytes ++ more)) text
  full_at (entry.Change c) is text h more =
      let are = next_are more in
      record {
        version = v;
        named = (goes_on p now.reader bytes (e ∷ said) v read named more).named;
        said = said;
        next = c;
        others = are.0;
        are = subst (λ (d : Entry). (read_of p (bytes ++ more)).entries ≡ reverse said ++ (d ∷ are.0)) is are.1;
        is = h;
      }
  full_at (entry.Pin q) is text h more = absurd h
  full_at entry.Running is text h more = absurd h
  full_at (entry.Low x) is text h more = absurd h
  full_at (entry.Moment m) is text h more = absurd h

  pub entry_taken : (o : Option Status) → EntryTaken p skew v said e now.known (waiting_in now.sampling) from to (Ok o) → Taken p skew bytes from to now (Ok o)
  entry_taken None h = record {
    skew_is = same;
    said = e ∷ said;
    read = read;
    text = h.text;
    judged = subst (λ (x : Option Version). JudgedBy p skew x (e ∷ said) now.known (waiting_in now.sampling) h.text) (sym named) h.judged;
    wrote = h.wrote;
  }
  entry_taken (Some status) h = (h.3, record { text = h.0; stops = stops_in h.0 h.1; wrote = h.2 })

  pub entry_fails : (f : ProbeFault) → EntryTaken p skew v said e now.known (waiting_in now.sampling) from to (Err f) → Taken p skew bytes from to now (Err f)
  entry_fails (fault.Capture f) h = absurd h
  entry_fails fault.TooManyOrders h = record { text = h.0; full = full_at e refl h.0 h.1; wrote = h.2 }
  entry_fails (fault.Engine (engine.Trace f)) h = (h.0, record { text = h.1; is = to_write h.1 h.2; wrote = h.3 })
  entry_fails (fault.Engine (engine.Scenario e)) h = absurd h
  entry_fails (fault.Engine engine.CannotRead) h = absurd h
  entry_fails (fault.Engine engine.TooLong) h = absurd h
  entry_fails (fault.Engine engine.NoMemory) h = absurd h
  entry_fails (fault.Engine (engine.Beyond n)) h = absurd h

-- ---- more bytes behind a place

module _ (p : Plan) (skew : Option ℕ) (a b : List ℕ) (from to : Option (List ℕ)) where
  pub fails_on : (f : CaptureFault) → Fails p skew a f from to → Fails p skew (a ++ b) f from to
  fails_on f h = record {
    said = h.said;
    text = h.text;
    fault = λ more. subst (λ (l : List ℕ). IsFaultAfter (read_of p l) h.said f) (sym (append_assoc a b more)) (h.fault (b ++ more));
    judged = λ more. subst (λ (l : List ℕ). IsJudged p skew (read_of p l) h.said h.text) (sym (append_assoc a b more)) (h.judged (b ++ more));
    wrote = h.wrote;
  }

  pub stopped_on : IsStopped p skew a from to → IsStopped p skew (a ++ b) from to
  stopped_on h = record {
    text = h.text;
    stops = λ more. subst (λ (l : List ℕ). StopsIn p skew (read_of p l) h.text) (sym (append_assoc a b more)) (h.stops (b ++ more));
    wrote = h.wrote;
  }

  pub full_on : IsFull p skew a from to → IsFull p skew (a ++ b) from to
  full_on h = record {
    text = h.text;
    full = λ more. subst (λ (l : List ℕ). IsOverfullIn p skew (read_of p l) h.text) (sym (append_assoc a b more)) (h.full (b ++ more));
    wrote = h.wrote;
  }

  pub cut_on : IsCut p skew a from to → IsCut p skew (a ++ b) from to
  cut_on h = record {
    text = h.text;
    is = λ more. subst (λ (l : List ℕ). IsToWrite p skew (read_of p l) h.text) (sym (append_assoc a b more)) (h.is (b ++ more));
    wrote = h.wrote;
  }

  pub status_on : (now : Judging) (status : Status) → Taken p skew a from to now (Ok (Some status)) → Taken p skew (a ++ b) from to now (Ok (Some status))
  status_on now status h = (h.0, stopped_on h.1)

  pub fault_on : (now : Judging) (f : ProbeFault) → Taken p skew a from to now (Err f) → Taken p skew (a ++ b) from to now (Err f)
  fault_on now (fault.Capture f) h = fails_on f h
  fault_on now fault.TooManyOrders h = full_on h
  fault_on now (fault.Engine (engine.Trace f)) h = (h.0, cut_on h.1)
  fault_on now (fault.Engine (engine.Scenario e)) h = absurd h
  fault_on now (fault.Engine engine.CannotRead) h = absurd h
  fault_on now (fault.Engine engine.TooLong) h = absurd h
  fault_on now (fault.Engine engine.NoMemory) h = absurd h
  fault_on now (fault.Engine (engine.Beyond n)) h = absurd h

-- ---- behind what was read

others_at : (p : Plan) (r : Reader) (bytes : List ℕ) (said : List Entry) → HasRead p r bytes said → (rest : List ℕ) (o : Option Version) → r.version ≡ o
    → (others : List Entry) × ((read_of p (bytes ++ rest)).entries ≡ reverse said ++ others)
others_at p r bytes said read rest None is =
    let e : List Entry = (read_of p (bytes ++ rest)).entries in
    (e, subst (λ (l : List Entry). e ≡ reverse l ++ e) (sym (read.start is).1) refl)
others_at p r bytes said read rest (Some v) is = let goes = goes_on p r bytes said v read is rest in (goes.others, goes.are)

pub judged_at_all : (p : Plan) (skew : Option ℕ) (now : Judging) (bytes : List ℕ) (from to : Option (List ℕ)) (h : IsAt p skew now bytes from to) (rest : List ℕ)
    → IsJudged p skew (read_of p (bytes ++ rest)) h.said h.text
judged_at_all p skew now bytes from to h rest =
    let others = others_at p now.reader bytes h.said h.read rest now.reader.version refl in
    record {
      others = others.0;
      are = others.1;
      known = now.known;
      waits = waiting_in now.sampling;
      judged = judged_before p skew now.reader bytes h.said h.read now.known (waiting_in now.sampling) h.text h.judged now.reader.version refl h.judged rest;
    }

-- ---- one byte

module _ (p : Plan) (skew : Option ℕ) (old now : Judging) (bytes : List ℕ) (b : ℕ) (from to : Option (List ℕ)) (h : IsAt p skew old bytes from to) where
  -- it completes no line that says something
  pub byte_none : now.known ≡ old.known → now.sampling ≡ old.sampling → HasRead p now.reader (bytes ++ b ∷ []) h.said → IsAt p skew now (bytes ++ b ∷ []) from to
  byte_none same kept read = record {
    skew_is = ap skew_of kept ∙ h.skew_is;
    said = h.said;
    read = read;
    text = h.text;
    judged =
        subst (λ (k : Option Known). JudgedBy p skew now.reader.version h.said k (waiting_in now.sampling) h.text) (sym same)
        (subst (λ (l : List SeenChange). JudgedBy p skew now.reader.version h.said old.known l h.text) (sym (ap waiting_in kept))
        (judged_on p skew old.reader bytes h.said h.read old.known (waiting_in old.sampling) h.text h.judged now.reader (b ∷ []) read));
    wrote = h.wrote;
  }

  -- it completes one
  pub stands_before : (r : Reader) (e : Entry) (v : Version) → HasRead p r (bytes ++ b ∷ []) (e ∷ h.said) → r.version ≡ Some v → Stands p skew v h.said old.known (waiting_in old.sampling) from to
  stands_before r e v read named = record {
    text = h.text;
    judged = judged_at p skew old.reader bytes h.said h.read old.known (waiting_in old.sampling) h.text h.judged r (b ∷ []) (e ∷ h.said) v read named;
    wrote = h.wrote;
  }

  -- it completes a line that has a fault
  pub byte_fails : (f : CaptureFault) → ((more : List ℕ) → IsFaultAfter (read_of p ((bytes ++ b ∷ []) ++ more)) h.said f) → Fails p skew (bytes ++ b ∷ []) f from to
  byte_fails f fault = record {
    said = h.said;
    text = h.text;
    fault = fault;
    judged = λ more.
        subst (λ (l : List ℕ). IsJudged p skew (read_of p l) h.said h.text) (sym (append_assoc bytes (b ∷ []) more))
        (judged_up_to p skew old.reader bytes h.said h.read old.known (waiting_in old.sampling) h.text h.judged (b ∷ more) f
        (subst (λ (l : List ℕ). IsFaultAfter (read_of p l) h.said f) (append_assoc bytes (b ∷ []) more) (fault more)));
    wrote = h.wrote;
  }
