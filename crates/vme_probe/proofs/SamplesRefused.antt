-- What `probe` answers of a capture with `--skew` holds of all buses that keep the rules:
-- `sample_laws`.
use Rattle.std.proofs.Common.{◌≡◌, ◌⊎◌, ◌∙◌, ◌<◌, ◌++◌, ◌∷◌, [], ℕ, Bool, true, false, List, Option, Some, None, Ok, length, reverse, inl, inr, refl, sym, ap, subst, arith, is_none, is_some, not, append-nil}
use Rattle.std.specs.Prelude.{◌&&◌, if◌then◌else◌}
use Rattle.std.proofs.lemmas.Bool.{and_parts}
use Rattle.vme_model.specs.Accepted.{IsAccepted}
use Rattle.vme_model.specs.Plan.{Plan}
use Rattle.vme_model.specs.declared.signals.Edge.{Edge}
use Rattle.vme_model.specs.declared.signals.Version.{Version}
use Rattle.vme_captures.specs.declared.signals.Change.{Change}
use Rattle.vme_captures.specs.declared.signals.Entry.{Entry}
use Rattle.vme_captures.specs.declared.signals.Entry.TheVariants as entry
use Rattle.vme_captures.specs.Feeding.{probes_of}
use Rattle.vme_captures.specs.Possible.{AgreeEach, sightings}
use Rattle.vme_captures.specs.Reading.{capture_of, changes, is_running, last_moment, pins, read_of}
use Rattle.vme_standings.specs.declared.standings.Probed.{Probed}
use Rattle.vme_standings.specs.Covers.{AreProbed}
use Rattle.vme_standings.proofs.JoinedCaptures.{explained, head_runs}
use Rattle.vme_samples.specs.declared.samples.SeenChange.{SeenChange}
use Rattle.vme_samples.specs.Samples.{joins}
use Rattle.vme_reading.specs.declared.Status.TheVariants.{Done, SomeRefused}
use Rattle.vme_reading.specs.Streams.{Streams, HasConsumed, IsReadOut, Wrote}
use Rattle.vme_probe.specs.declared.judging.Known.{Known}
use Rattle.vme_probe.specs.Knowing.{Begins, Begun, CannotBegin, CannotStart, IsStoppedAtEnd, IsUnbegun, Judged, StopsAt, StopsSample, TakesSample, Waits, is_low_by, no_beginning, seen_at}
use Rattle.vme_probe.specs.Probing.{IsImpossibleAtEnd, IsPossible as IsPossibleText, Probes, StopsIn}
use Rattle.vme_probe.specs.SampledNaming.{IsNeverShown, IsRefusedInOrders, NamesAllSamples, NamesSamples, in_order, sample_lines, samples, with_change}
use Rattle.vme_probe.proofs.Judged.{begun, nothing_waits}
use Rattle.vme_probe.proofs.Refused.{read_all, read_first}
use Rattle.vme_probe.proofs.Said.{AllSaid, said_stands}
use Rattle.vme_probe.proofs.SampleLevels.{tells_samples}
use Rattle.vme_probe.proofs.SamplesTied.{CoversOrders, Taken, begins_as, stopped, taken}
use Rattle.vme_probe.proofs.Tied.{Tied, are_probed, at_head, head_says, no_changes}

none_some : {A : Type 0} (a : A) → ◌≡◌ {A = Option A} None (Some a) → ⊥
none_some a h = cc

some_same : {A : Type 0} (a b : A) → ◌≡◌ {A = Option A} (Some a) (Some b) → a ≡ b
some_same a b h = cc

true_false : ◌≡◌ {A = Bool} true false → ⊥
true_false h = cc

-- ---- the head

no_samples : (p : Plan) (skew : ℕ) (said : List Entry) → AllSaid p said → last_moment said ≡ None → samples skew said ≡ []
no_samples p skew [] all none = refl
no_samples p skew (entry.Pin q ∷ said) all none = no_samples p skew said all.1 none
no_samples p skew (entry.Running ∷ said) all none = no_samples p skew said all.1 none
no_samples p skew (entry.Low x ∷ said) all none = no_samples p skew said all.1 none
no_samples p skew (entry.Moment m ∷ said) all none = absurd (none_some m (sym none))
no_samples p skew (entry.Change c ∷ said) all none =
    absurd (true_false (sym (said_stands p said (entry.Change c) all.0) ∙ ap (λ (o : Option ℕ). is_some o) none))

-- nothing is written of it
no_lines : (p : Plan) (v : Version) (skew : Option ℕ) (said : List Entry) (waits : List SeenChange) (text : List ℕ) → Judged p v skew said None waits text → text ≡ []
no_lines p v skew [] waits text h = h.2
no_lines p v skew (entry.Pin q ∷ said) waits text h = no_lines p v skew said waits text h
no_lines p v skew (entry.Running ∷ said) waits text h = no_lines p v skew said waits text h
no_lines p v skew (entry.Low x ∷ said) waits text h = no_lines p v skew said waits text h
no_lines p v skew (entry.Moment m ∷ said) waits text h = absurd (none_some h.1 h.4)
no_lines p v skew (entry.Change c ∷ said) waits text h = absurd (none_some h.3 h.6)

late : (p : Plan) (v : Version) (skew : Option ℕ) (said : List Entry) (k : Known) (waits : List SeenChange) (text : List ℕ) → Judged p v skew said (Some k) waits text → last_moment said ≡ None → ⊥
late p v skew [] k waits text h none = none_some k (sym h.0)
late p v skew (entry.Pin q ∷ said) k waits text h none = late p v skew said k waits text h none
late p v skew (entry.Running ∷ said) k waits text h none = late p v skew said k waits text h none
late p v skew (entry.Low x ∷ said) k waits text h none = late p v skew said k waits text h none
late p v skew (entry.Moment m ∷ said) k waits text h none = none_some m (sym none)
late p v skew (entry.Change c ∷ said) k waits text h none = late p v skew said h.0 h.1 h.2 h.4 none

is_head : (o : Option ℕ) → is_none o ≡ true → o ≡ None
is_head None h = refl
is_head (Some m) h = absurd (true_false (sym h))

too_late : (p : Plan) (v : Version) (skew : Option ℕ) (said : List Entry) (k : Known) (waits : List SeenChange) (text : List ℕ) (b : Bool) → Judged p v skew said (Some k) waits text
    → (b && is_none (last_moment said)) ≡ true → ⊥
too_late p v skew said k waits text b h may = late p v skew said k waits text h (is_head (last_moment said) (and_parts b (is_none (last_moment said)) may).1)

-- ---- what was said

-- the changes that wait are the newest sample
abbrev pub with_waits : List SeenChange → List (List SeenChange) → List (List SeenChange)
with_waits [] judged = judged
with_waits (w ∷ waits) judged = (w ∷ waits) ∷ judged

not_none : (waits : List SeenChange) (s : SeenChange) → waits ++ s ∷ [] ≡ [] → ⊥
not_none [] s h = cc
not_none (w ∷ waits) s h = cc

-- a change more waits
grown : (skew : ℕ) (waits : List SeenChange) (judged : List (List SeenChange)) (s : SeenChange) → (waits ≡ [] → judged ≡ []) → joins skew waits s.moment ≡ true
    → with_change skew (with_waits waits judged) s ≡ with_waits (waits ++ s ∷ []) judged
grown skew [] judged s none joined = ap (λ js. with_change skew js s) (none refl) ∙ sym (ap (λ (js : List (List SeenChange)). (s ∷ []) ∷ js) (none refl))
grown skew (w ∷ waits) judged s none joined =
    ap (λ b. if b then ((w ∷ waits) ++ s ∷ []) ∷ judged else (s ∷ []) ∷ (w ∷ waits) ∷ judged) joined

module _ (p : Plan) (ok : IsAccepted p) (v : Version) (skew : ℕ) where
  pub record Sampled (said : List Entry) (k : Known) (waits : List SeenChange) (text : List ℕ) : Type 0 where
    pub probed : Probed
    pub probed_is : k.probed ≡ probed
    pub version : v ≡ probed.version
    pub probes : AreProbed p (pins said) probed.segments
    pub judged : List (List SeenChange)
    pub are : samples skew said ≡ with_waits waits judged
    pub none : waits ≡ [] → judged ≡ []
    pub covers : CoversOrders p ok v said probed judged k.standings
    pub names : NamesSamples p v said judged text

  behind_head : (said : List Entry) → AllSaid p said → (waits : List SeenChange) (text : List ℕ) → Judged p v (Some skew) said None waits text → (k : Known) → Begins p v said k
      → Sampled said k waits text
  behind_head said all waits text judged k b =
      let none = begun p v (Some skew) said waits text judged in
      let t = at_head p ok v said all none k b in
      let nothing : waits ≡ [] = nothing_waits p v (Some skew) said waits text judged in
      record {
        probed = t.probed;
        probed_is = t.probed_is;
        version = t.version;
        probes = t.probes;
        judged = [];
        are = no_samples p skew said all none ∙ sym (ap (λ w. with_waits w []) nothing);
        none = λ x. refl;
        covers = λ cs g h orders x hidden moved.
            explained p ok t.probed (capture_of v said) t.version t.probes g (begins_as p ok v said cs (changes said) g x.begins) t.first t.starts h x.legal (changes said)
            (subst (λ ks. AgreeEach ks (sightings p (pins said) g h)) (orders ∙ sym (no_changes p said all none)) x.shows) k.standings hidden t.follows moved;
        names = no_lines p v (Some skew) said waits text judged;
      }

  at_moment : (said : List Entry) (m : ℕ) (k : Known) (waits : List SeenChange) (text : List ℕ) → Sampled said k waits text → Sampled (entry.Moment m ∷ said) k waits text
  at_moment said m k waits text s = record {
    probed = s.probed;
    probed_is = s.probed_is;
    version = s.version;
    probes = s.probes;
    judged = s.judged;
    are = s.are;
    none = s.none;
    covers = s.covers;
    names = s.names;
  }

  at_change : (said : List Entry) (c : Change) (old new : Known) (waiting waits : List SeenChange) (lines text : List ℕ) → Sampled said old waiting lines
      → Waits p skew lines old waiting (seen_at said c) new waits text
      → Sampled (entry.Change c ∷ said) new waits text
  at_change said c old new waiting waits lines text s w = by_join (joins skew waiting (seen_at said c).moment) refl waiting refl
    where
      a : SeenChange
      a = seen_at said c

      waits_on : joins skew waiting a.moment ≡ true → Sampled (entry.Change c ∷ said) new waits text
      waits_on e =
          let j = w.joined e in
          record {
            probed = s.probed;
            probed_is = ap (λ (x : Known). x.probed) j.2 ∙ s.probed_is;
            version = s.version;
            probes = s.probes;
            judged = s.judged;
            are = ap (λ js. with_change skew js a) s.are ∙ grown skew waiting s.judged a s.none e ∙ sym (ap (λ x. with_waits x s.judged) j.1);
            none = λ x. absurd (not_none waiting a (sym j.1 ∙ x));
            covers = subst (λ (x : Known). CoversOrders p ok v said s.probed s.judged x.standings) (sym j.2) s.covers;
            names = subst (NamesSamples p v said s.judged) (sym j.3) s.names;
          }

      judged_now : (b : SeenChange) (others : List SeenChange) → waiting ≡ b ∷ others → joins skew waiting a.moment ≡ false → Sampled (entry.Change c ∷ said) new waits text
      judged_now b others is e =
          let j = w.complete e in
          let t = taken p ok v said s.probed s.version s.probes s.judged old.standings s.covers old s.probed_is refl waiting
          (subst (λ (l : List SeenChange). 0 < length l) (sym is) (omega arith)) new j.0 j.1 in
          record {
            probed = s.probed;
            probed_is = t.probed_is;
            version = s.version;
            probes = s.probes;
            judged = waiting ∷ s.judged;
            are =
                ap (λ js. with_change skew js a) (s.are ∙ ap (λ l. with_waits l s.judged) is ∙ ap (λ (l : List SeenChange). l ∷ s.judged) (sym is))
                ∙ ap (λ x. if x then (waiting ++ a ∷ []) ∷ s.judged else (a ∷ []) ∷ waiting ∷ s.judged) e
                ∙ sym (ap (λ x. with_waits x (waiting ∷ s.judged)) j.2);
            none = λ x. absurd (not_none [] a (sym j.2 ∙ x));
            covers = t.covers;
            names = (lines, t.by, s.names, t.named, j.3 ∙ ap (λ l. lines ++ l) t.is);
          }

      by_join : (b : Bool) → joins skew waiting a.moment ≡ b → (l : List SeenChange) → waiting ≡ l → Sampled (entry.Change c ∷ said) new waits text
      by_join true e l is = waits_on e
      by_join false e [] is = absurd (true_false (sym (ap (λ l. joins skew l a.moment) is) ∙ e))
      by_join false e (b ∷ others) is = judged_now b others is e

  pub sampled : (said : List Entry) → AllSaid p said → (k : Known) (waits : List SeenChange) (text : List ℕ) → Judged p v (Some skew) said (Some k) waits text → Sampled said k waits text
  sampled [] all k waits text h = absurd (none_some k (sym h.0))
  sampled (entry.Pin q ∷ said) all k waits text h = absurd (too_late p v (Some skew) said k waits text (not (is_running said)) h (said_stands p said (entry.Pin q) all.0))
  sampled (entry.Running ∷ said) all k waits text h = absurd (too_late p v (Some skew) said k waits text (not (is_running said)) h (said_stands p said entry.Running all.0))
  sampled (entry.Low x ∷ said) all k waits text h = absurd (too_late p v (Some skew) said k waits text (is_running said) h (said_stands p said (entry.Low x) all.0))
  sampled (entry.Moment m ∷ said) all k waits text h = by_before h.0 h.2 h.3 (λ j judged. sampled said all.1 j waits text judged)
    where
      same : h.1 ≡ k
      same = some_same h.1 k (sym h.4)

      by_before : (before : Option Known) → Judged p v (Some skew) said before waits text → Begun p v said before h.1
          → ((j : Known) → Judged p v (Some skew) said (Some j) waits text → Sampled said j waits text) → Sampled (entry.Moment m ∷ said) k waits text
      by_before None judged b earlier = at_moment said m k waits text (behind_head said all.1 waits text judged k (subst (λ x. Begins p v said x) same b))
      by_before (Some j) judged b earlier = at_moment said m k waits text (subst (λ x. Sampled said x waits text) (b ∙ same) (earlier j judged))
  sampled (entry.Change c ∷ said) all k waits text h =
      subst (λ x. Sampled (entry.Change c ∷ said) x waits text) (some_same h.3 k (sym h.6))
      (at_change said c h.0 h.3 h.1 waits h.2 text (sampled said all.1 h.0 h.1 h.2 h.4) h.5)

  -- ---- the whole capture

  -- what is known behind all samples, and their lines
  record Ended (said : List Entry) (k : Known) (text : List ℕ) : Type 0 where
    probed : Probed
    probed_is : k.probed ≡ probed
    version : v ≡ probed.version
    covers : CoversOrders p ok v said probed (samples skew said) k.standings
    names : NamesSamples p v said (samples skew said) text

  -- with the sample that waits
  ended : (said : List Entry) (k : Known) (waits : List SeenChange) (lines : List ℕ) → Sampled said k waits lines → (new : Known) (text : List ℕ) → TakesSample p k waits new text
      → Ended said new (lines ++ text)
  ended said k [] lines s new text t = record {
    probed = s.probed;
    probed_is = ap (λ (x : Known). x.probed) t.0 ∙ s.probed_is;
    version = s.version;
    covers =
        subst (λ js. CoversOrders p ok v said s.probed js new.standings) (sym s.are)
        (subst (λ (x : Known). CoversOrders p ok v said s.probed s.judged x.standings) (sym t.0) s.covers);
    names =
        subst (λ js. NamesSamples p v said js (lines ++ text)) (sym s.are)
        (subst (NamesSamples p v said s.judged) (sym (ap (λ (l : List ℕ). lines ++ l) t.1 ∙ append-nil lines)) s.names);
  }
  ended said k (w ∷ waits) lines s new text t =
      let x = taken p ok v said s.probed s.version s.probes s.judged k.standings s.covers k s.probed_is refl (w ∷ waits) (omega arith) new text t in
      record {
        probed = s.probed;
        probed_is = x.probed_is;
        version = s.version;
        covers = subst (λ js. CoversOrders p ok v said s.probed js new.standings) (sym s.are) x.covers;
        names = subst (λ js. NamesSamples p v said js (lines ++ text)) (sym s.are) (lines, x.by, s.names, x.named, ap (λ l. lines ++ l) x.is);
      }

  all_ended : (said : List Entry) → AllSaid p said → (before : Option Known) (waits : List SeenChange) (lines : List ℕ) → Judged p v (Some skew) said before waits lines → (k : Known)
      → Begun p v said before k
      → (new : Known) (text : List ℕ) → TakesSample p k waits new text → Ended said new (lines ++ text)
  all_ended said all None waits lines judged k b new text t = ended said k waits lines (behind_head said all waits lines judged k b) new text t
  all_ended said all (Some j) waits lines judged k b new text t = ended said k waits lines (subst (λ x. Sampled said x waits lines) b (sampled said all j waits lines judged)) new text t

  -- a head that is refused begins no possible capture
  unbegun : (said : List Entry) → AllSaid p said → last_moment said ≡ None → CannotBegin p v said → IsNeverShown p v said (samples skew said)
  unbegun said all none cannot cs orders may = by_running (is_running said) cannot.cannot
    where
      by_running : (b : Bool) → CannotStart p (probes_of p said) (is_low_by said) cannot.probed b → ⊥
      by_running false h = h
      by_running true (levels, low, are, h) =
          head_runs p ok cannot.probed (capture_of v said) (sym cannot.probed_is.version_is)
          (are_probed p said cannot.probed.segments cannot.probed_is.segments) may.before (begins_as p ok v said cs (changes said) may.before may.explains.begins) levels low
          (head_says p ok v said all none levels low are) h

  module _ (bytes : List ℕ) where
    head_refused : (said others : List Entry) → (read_of p bytes).version ≡ Some v → (read_of p bytes).entries ≡ reverse said ++ others → (waits : List SeenChange) (lines text : List ℕ)
        → Judged p v (Some skew) said None waits lines → CannotBegin p v said → text ≡ lines ++ no_beginning → IsRefusedInOrders p skew (read_of p bytes) text
    head_refused said others named are waits lines text judged cannot is =
        let all = read_first p bytes said others are in
        let none = begun p v (Some skew) said waits lines judged in
        record {
          version = v;
          named = named;
          said = said;
          others = others;
          are = are;
          judged = [];
          up_to = inl (no_samples p skew said all none);
          lines = lines;
          names = no_lines p v (Some skew) said waits lines judged;
          never = unbegun said all none cannot;
          last = no_beginning;
          is = is;
        }

    sample_refused : (said others : List Entry) → (read_of p bytes).version ≡ Some v → (read_of p bytes).entries ≡ reverse said ++ others
        → (k : Known) (waits : List SeenChange) (lines last text : List ℕ)
        → Judged p v (Some skew) said (Some k) waits lines → StopsSample p k waits last → text ≡ lines ++ last → IsRefusedInOrders p skew (read_of p bytes) text
    sample_refused said others named are k [] lines last text judged stops is = absurd stops
    sample_refused said others named are k (w ∷ waits) lines last text judged stops is =
        let all = read_first p bytes said others are in
        let s = sampled said all k (w ∷ waits) lines judged in
        record {
          version = v;
          named = named;
          said = said;
          others = others;
          are = are;
          judged = s.judged;
          up_to = inr (w ∷ waits, s.are);
          lines = lines;
          names = s.names;
          never = subst (IsNeverShown p v said) (sym s.are) (stopped p ok v said s.probed s.version s.probes s.judged k.standings s.covers k s.probed_is refl (w ∷ waits) last stops);
          last = last;
          is = is;
        }

module _ (p : Plan) (ok : IsAccepted p) (skew : ℕ) (bytes : List ℕ) where
  whole_named : (text : List ℕ) → IsPossibleText p (Some skew) (read_of p bytes) text → NamesAllSamples p skew (read_of p bytes) text
  whole_named text x =
      let has = x.is.has in
      let all = read_all p bytes x.said x.are in
      let e = all_ended p ok x.version skew x.said all has.before has.waits has.lines has.judged has.known has.begun x.is.after has.sample has.takes in
      record {
        version = x.version;
        named = x.named;
        whole = x.whole;
        said = x.said;
        are = x.are;
        lines = has.lines ++ has.sample;
        names = e.names;
        last = x.is.last;
        tells = tells_samples p ok x.version skew x.said all e.probed e.version x.is.after e.probed_is e.covers x.is.last x.is.ends;
        is = x.is.is ∙ ap (λ l. l ++ x.is.last) has.is;
      }

  stop_refused : (text : List ℕ) → StopsIn p (Some skew) (read_of p bytes) text → IsRefusedInOrders p skew (read_of p bytes) text
  stop_refused text x = by_next x.next x.are x.stops
    where
      by_next : (e : Entry) → (read_of p bytes).entries ≡ reverse x.said ++ e ∷ x.others → StopsAt p x.version (Some skew) x.said e text → IsRefusedInOrders p skew (read_of p bytes) text
      by_next (entry.Moment m) are (waits, lines, judged, cannot, is) = head_refused p ok x.version skew bytes x.said (entry.Moment m ∷ x.others) x.named are waits lines text judged cannot is
      by_next (entry.Change c) are (before, waiting, lines, last, judged, stops, is) = sample_refused p ok x.version skew bytes x.said
          (entry.Change c ∷ x.others) x.named are before waiting lines last text judged stops.1 is
      by_next (entry.Pin q) are h = absurd h
      by_next entry.Running are h = absurd h
      by_next (entry.Low y) are h = absurd h

  end_refused : (text : List ℕ) → IsImpossibleAtEnd p (Some skew) (read_of p bytes) text → IsRefusedInOrders p skew (read_of p bytes) text
  end_refused text x = by_end x.is (x.are ∙ sym (append-nil (reverse x.said)))
    where
      by_end : IsUnbegun p x.version (Some skew) x.said text ⊎ IsStoppedAtEnd p x.version (Some skew) x.said text → (read_of p bytes).entries ≡ reverse x.said ++ []
          → IsRefusedInOrders p skew (read_of p bytes) text
      by_end (inl u) are = head_refused p ok x.version skew bytes x.said [] x.named are u.waits u.lines text u.judged u.cannot u.is
      by_end (inr s) are = sample_refused p ok x.version skew bytes x.said [] x.named are s.known s.waits s.lines s.others text s.judged s.stops s.is

pub possible_named : (p : Plan) (skew : ℕ) (bytes : List ℕ) (s : Streams) → IsAccepted p → Probes p (Some skew) bytes s (Ok Done) → (text : List ℕ) × NamesAllSamples p skew (read_of p bytes) text
    × Wrote s text
possible_named p skew bytes s ok h = (h.1, whole_named p ok skew bytes h.1 h.2, h.3)

pub impossible_refused : (p : Plan) (skew : ℕ) (bytes : List ℕ) (s : Streams) → IsAccepted p → Probes p (Some skew) bytes s (Ok SomeRefused)
    → (read : List ℕ) × (text : List ℕ) × (HasConsumed s read ⊎ (IsReadOut s × (read ≡ bytes))) × IsRefusedInOrders p skew (read_of p read) text × Wrote s text
impossible_refused p skew bytes s ok h = by_place h.3
  where
    by_place : StopsIn p (Some skew) (read_of p h.0) h.2 ⊎ (IsReadOut s × IsImpossibleAtEnd p (Some skew) (read_of p bytes) h.2)
        → (read : List ℕ) × (text : List ℕ) × (HasConsumed s read ⊎ (IsReadOut s × (read ≡ bytes))) × IsRefusedInOrders p skew (read_of p read) text × Wrote s text
    by_place (inl x) = (h.0, h.2, inl h.1, stop_refused p ok skew h.0 h.2 x, h.4)
    by_place (inr x) = (bytes, h.2, inr (x.0, refl), end_refused p ok skew bytes h.2 x.1, h.4)
