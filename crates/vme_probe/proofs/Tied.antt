-- What is known behind a capture's changes is what the laws of `vme_standings` speak of.
use Rattle.std.proofs.Common.{◌≡◌, ◌∙◌, ◌<◌, ◌≤◌, ◌∷◌, [], ℕ, zero, suc, Bool, true, false, List, Option, Some, None, refl, sym, ap, subst, arith, is_some, not}
use Rattle.std.specs.Prelude.{◌==◌, ◌&&◌, ◌||◌, if◌then◌else◌, is_none, map, nat_lt, option_map}
use Rattle.std.specs.Option.{option_map_or}
use Rattle.std.proofs.lemmas.Bool.{and_parts}
use Rattle.std.proofs.lemmas.Bool.Decides.{nat_tests}
use Rattle.vme_model.specs.declared.boards.Row.{Row}
use Rattle.vme_model.specs.declared.sets.ChainId.{ChainId}
use Rattle.vme_model.specs.declared.signals.Version.{Version}
use Rattle.vme_model.specs.Accepted.{IsAccepted}
use Rattle.vme_model.specs.Plan.{Plan, board, is_active, works}
use Rattle.vme_model.proofs.Members.{found_row}
use Rattle.vme_model.proofs.Ranges.{IsRowInRange, in_range}
use Rattle.vme_captures.specs.declared.levels.Levels.{Levels}
use Rattle.vme_captures.specs.declared.reader.Probe.{Probe}
use Rattle.vme_captures.specs.declared.signals.Change.{Change}
use Rattle.vme_captures.specs.declared.signals.Entry.{Entry}
use Rattle.vme_captures.specs.declared.signals.Entry.TheVariants as entry
use Rattle.vme_captures.specs.declared.signals.Line.TheVariants as on_line
use Rattle.vme_captures.specs.declared.signals.Pin.{Pin}
use Rattle.vme_captures.specs.declared.signals.Segment.{Segment}
use Rattle.vme_captures.specs.declared.signals.Signal.{Signal}
use Rattle.vme_captures.specs.declared.signals.Signal.TheVariants as signal
use Rattle.vme_captures.specs.Feeding.{probe_of, probes_of}
use Rattle.vme_captures.specs.Possible.{is_among}
use Rattle.vme_captures.specs.Reading.{capture_of, changes, is_left_low, is_running, last_moment, lows, pins}
use Rattle.vme_captures.specs.Signals.{is_same_segment, is_same_signal, is_signal}
use Rattle.vme_captures.specs.Spelling.{may_be_low}
use Rattle.vme_captures.specs.Wires.{pin_on, wire_of}
use Rattle.vme_captures.proofs.Same.{signal_same}
use Rattle.vme_standings.specs.declared.segments.Segments.{Segments}
use Rattle.vme_standings.specs.declared.standings.Drivers.{Drivers}
use Rattle.vme_standings.specs.declared.standings.Probed.{Probed}
use Rattle.vme_standings.specs.declared.standings.Standings.{Standings}
use Rattle.vme_standings.specs.Covers.{AreProbed, segment_at}
use Rattle.vme_standings.specs.Behind.{IsBehind}
use Rattle.vme_standings.specs.Following.{Follows, HeadSays, StartsAs}
use Rattle.vme_standings.specs.Hidden.{HasMoved}
use Rattle.vme_standings.proofs.JoinedSegments.{probed_works}
use Rattle.vme_samples.specs.declared.samples.SeenChange.{SeenChange}
use Rattle.vme_probe.specs.declared.judging.Known.{Known}
use Rattle.vme_probe.specs.Knowing.{AreLevels, Begins, Begun, Follows as Leads, Judged, StartsWith, is_low_by}
use Rattle.vme_probe.specs.Pins.{HoldsProbed, is_in, probe_at, segment_at as segment_of}
use Rattle.vme_probe.proofs.Judged.{begun}
use Rattle.vme_probe.proofs.Said.{AllSaid, formed, said_stands}

none_some : {A : Type 0} (a : A) → ◌≡◌ {A = Option A} None (Some a) → ⊥
none_some a h = cc

some_same : {A : Type 0} (a b : A) → ◌≡◌ {A = Option A} (Some a) (Some b) → a ≡ b
some_same a b h = cc

true_false : ◌≡◌ {A = Bool} true false → ⊥
true_false h = cc

-- ---- the head

-- no change was said, as no moment was
pub no_changes : (p : Plan) (said : List Entry) → AllSaid p said → last_moment said ≡ None → changes said ≡ []
no_changes p [] all none = refl
no_changes p (entry.Pin q ∷ said) all none = no_changes p said all.1 none
no_changes p (entry.Running ∷ said) all none = no_changes p said all.1 none
no_changes p (entry.Low x ∷ said) all none = no_changes p said all.1 none
no_changes p (entry.Moment m ∷ said) all none = absurd (none_some m (sym none))
no_changes p (entry.Change c ∷ said) all none =
    absurd (true_false (sym (said_stands p said (entry.Change c) all.0) ∙ ap (λ (o : Option ℕ). is_some o) none))

both_ways : (a b : Bool) → (a ≡ true → b ≡ true) → (b ≡ true → a ≡ true) → a ≡ b
both_ways true b f g = sym (f refl)
both_ways false true f g = g refl
both_ways false false f g = refl

turned : (a b : Signal) → is_same_signal a b ≡ true → is_same_signal b a ≡ true
turned a b same = subst (λ x. is_same_signal x a ≡ true) (signal_same a b same) (subst (λ x. is_same_signal a x ≡ true) (sym (signal_same a b same)) same)

-- what the head says is low
pub low_at : (p : Plan) (said : List Entry) → AllSaid p said → last_moment said ≡ None → (x : Signal) → is_left_low said x ≡ is_among (lows said) x
low_at p [] all none x = refl
low_at p (entry.Pin q ∷ said) all none x = low_at p said all.1 none x
low_at p (entry.Running ∷ said) all none x = low_at p said all.1 none x
low_at p (entry.Low y ∷ said) all none x =
    ap (λ b. b || is_left_low said x) (both_ways (is_same_signal y x) (is_same_signal x y) (turned y x) (turned x y))
    ∙ ap (λ b. is_same_signal x y || b) (low_at p said all.1 none x)
low_at p (entry.Moment m ∷ said) all none x = absurd (none_some m (sym none))
low_at p (entry.Change c ∷ said) all none x =
    absurd (true_false (sym (said_stands p said (entry.Change c) all.0) ∙ ap (λ (o : Option ℕ). is_some o) none))

-- it is never AS*
strobe_high : (p : Plan) (said : List Entry) → AllSaid p said → is_among (lows said) (signal.Line on_line.AddressStrobe) ≡ false
strobe_high p [] all = refl
strobe_high p (entry.Pin q ∷ said) all = strobe_high p said all.1
strobe_high p (entry.Running ∷ said) all = strobe_high p said all.1
strobe_high p (entry.Low y ∷ said) all =
    by_test (is_same_signal (signal.Line on_line.AddressStrobe) y) refl (strobe_high p said all.1)
  where
    may : may_be_low y ≡ true
    may = (and_parts (is_signal y) (may_be_low y) (formed p said (entry.Low y) all.0)).1

    by_test : (b : Bool) → is_same_signal (signal.Line on_line.AddressStrobe) y ≡ b → is_among (lows said) (signal.Line on_line.AddressStrobe) ≡ false
        → (b || is_among (lows said) (signal.Line on_line.AddressStrobe)) ≡ false
    by_test true same high =
        absurd (true_false (sym may ∙ ap may_be_low (sym (signal_same (signal.Line on_line.AddressStrobe) y same))))
    by_test false same high = high
strobe_high p (entry.Moment m ∷ said) all = strobe_high p said all.1
strobe_high p (entry.Change c ∷ said) all = strobe_high p said all.1

-- ---- the pins

pub probe_found : (p : Plan) (said : List Entry) (g : Segment) (qs : List Pin) → probe_at (map (probe_of p said) qs) g ≡ option_map (probe_of p said) (pin_on p qs g)
probe_found p said g [] = refl
probe_found p said g (q ∷ qs) = by_test (is_same_segment (wire_of p q) g) (probe_found p said g qs)
  where
    by_test : (b : Bool) → probe_at (map (probe_of p said) qs) g ≡ option_map (probe_of p said) (pin_on p qs g)
        → (if b then Some (probe_of p said q) else probe_at (map (probe_of p said) qs) g) ≡ option_map (probe_of p said) (if b then Some q else pin_on p qs g)
    by_test true next = refl
    by_test false next = next

not_zero : (s : ℕ) → (suc s == 0) ≡ false
not_zero s = grind (arith, nat_tests)

pub one_segment : (c : ChainId) (s : ℕ) → segment_of c s ≡ segment_at c s
one_segment c zero = refl
one_segment c (suc s) = ap (λ b. record { chain = c; place = if b then None else Some (suc s) }) (not_zero s)

in_probes : (low : Bool) (p : Plan) (said : List Entry) (c : ChainId) (s : ℕ)
    → is_in low (probes_of p said) (segment_of c s) ≡ option_map_or (λ (r : Probe). r.low || not low) (option_map (probe_of p said) (pin_on p (pins said) (segment_at c s))) false
in_probes low p said c s =
    ap (λ g. is_in low (probes_of p said) g) (one_segment c s)
    ∙ ap (λ (o : Option Probe). option_map_or (λ (r : Probe). r.low || not low) o false) (probe_found p said (segment_at c s) (pins said))

near : (s : ℕ) (b : Bool) → s < 22 → (nat_lt s 22 && b) ≡ b
near s b less = grind (arith, nat_tests)

far : (s : ℕ) (b : Bool) → 22 ≤ s → (nat_lt s 22 && b) ≡ false
far s b more = grind (arith, nat_tests)

with_true : (b : Bool) → (b || true) ≡ true
with_true true = refl
with_true false = refl

with_false : (b : Bool) → (b || false) ≡ b
with_false true = refl
with_false false = refl

pub are_probed : (p : Plan) (said : List Entry) (set : Segments) → HoldsProbed false (probes_of p said) set → AreProbed p (pins said) set
are_probed p said set holds c s less =
    holds c s ∙ near s (is_in false (probes_of p said) (segment_of c s)) less ∙ in_probes false p said c s ∙ by_pin (pin_on p (pins said) (segment_at c s))
  where
    by_pin : (o : Option Pin) → option_map_or (λ (r : Probe). r.low || not false) (option_map (probe_of p said) o) false ≡ is_some o
    by_pin None = refl
    by_pin (Some q) = with_true (probe_of p said q).low

-- a segment that a pin is on has a place of the backplane
module _ (p : Plan) (ok : IsAccepted p) where
  active_near : (c : ChainId) (s : ℕ) → is_active p.rows c s ≡ true → s < 22
  active_near c s on = by_board (board p s) refl on
    where
      by_board : (o : Option Row) → board p s ≡ o → option_map_or (works c) o false ≡ true → s < 22
      by_board None is x = absurd (cc)
      by_board (Some r) is x =
          let range = in_range p ok in
          let found = found_row (IsRowInRange p) p.rows s r range.rows is in
          let to = found.fact.to_last in
          let same = found.slot in
          let most = range.most in
          omega (arith, to, same, most)

  pub no_pin_beyond : (qs : List Pin) (c : ChainId) (s : ℕ) → 22 ≤ s → pin_on p qs (segment_at c s) ≡ None
  no_pin_beyond qs c zero far = absurd (omega arith)
  no_pin_beyond qs c (suc s) far = by_pin (pin_on p qs (segment_at c (suc s))) refl
    where
      by_pin : (o : Option Pin) → pin_on p qs (segment_at c (suc s)) ≡ o → o ≡ None
      by_pin None is = refl
      by_pin (Some q) is =
          let less = active_near c (suc s) (probed_works p ok qs c s (ap (λ (o : Option Pin). is_some o) is)) in
          absurd (omega (arith, less, far))

  -- the levels of the head
  pub head_says : (v : Version) (said : List Entry) → AllSaid p said → last_moment said ≡ None → (lines : Levels) (low : Segments)
      → AreLevels (probes_of p said) (is_low_by said) lines low → HeadSays p (capture_of v said) lines low
  head_says v said all none lines low are = record {
    shared = λ l on. are.lines_are l on ∙ low_at p said all none (signal.Line l);
    probed = λ c s. are.low_are c s ∙ by_place c s (nat_lt s 22) refl;
  }
    where
      by_pin : (o : Option Pin) → option_map_or (λ (r : Probe). r.low || not true) (option_map (probe_of p said) o) false ≡ option_map_or (λ q. is_among (lows said) (signal.Pin q)) o false
      by_pin None = refl
      by_pin (Some q) = with_false (is_left_low said (signal.Pin q)) ∙ low_at p said all none (signal.Pin q)

      by_place : (c : ChainId) (s : ℕ) (b : Bool) → nat_lt s 22 ≡ b
          → (nat_lt s 22 && is_in true (probes_of p said) (segment_of c s)) ≡ option_map_or (λ q. is_among (lows said) (signal.Pin q)) (pin_on p (pins said) (segment_at c s)) false
      by_place c s true is =
          near s (is_in true (probes_of p said) (segment_of c s)) (grind (arith, nat_tests)) ∙ in_probes true p said c s ∙ by_pin (pin_on p (pins said) (segment_at c s))
      by_place c s false is =
          let more : 22 ≤ s = grind (arith, nat_tests) in
          far s (is_in true (probes_of p said) (segment_of c s)) more
          ∙ sym (ap (λ (o : Option Pin). option_map_or (λ q. is_among (lows said) (signal.Pin q)) o false) (no_pin_beyond (pins said) c s more))

  starts_as : (v : Version) (said : List Entry) → AllSaid p said → last_moment said ≡ None → (probed : Probed) (st : Standings)
      → (b : Bool) → is_running said ≡ b → StartsWith p (probes_of p said) (is_low_by said) probed b st → StartsAs p probed (capture_of v said) st
  starts_as v said all none probed st false is start = record {
    power_up = λ _. start;
    running = λ on. absurd (true_false (sym on ∙ is));
  }
  starts_as v said all none probed st true is start = record {
    power_up = λ off. absurd (true_false (sym is ∙ off));
    running = λ _. record {
      lines = start.0;
      low = start.1;
      said = head_says v said all none start.0 start.1 start.2;
      high = strobe_high p said all;
      known = start.3;
    };
  }

  -- ---- behind the changes

  -- what is known behind what was said follows from what is known first
  pub record Tied (v : Version) (said : List Entry) (k : Known) : Type 0 where
    pub probed : Probed
    pub probed_is : k.probed ≡ probed
    pub version : v ≡ probed.version
    pub probes : AreProbed p (pins said) probed.segments
    pub first : Standings
    pub starts : StartsAs p probed (capture_of v said) first
    pub follows : Follows p probed first (changes said) k.standings

  pub at_head : (v : Version) (said : List Entry) → AllSaid p said → last_moment said ≡ None → (k : Known) → Begins p v said k → Tied v said k
  at_head v said all none k b = record {
    probed = k.probed;
    probed_is = refl;
    version = sym b.probed.version_is;
    probes = are_probed p said k.probed.segments b.probed.segments;
    first = k.standings;
    starts = starts_as v said all none k.probed k.standings (is_running said) refl b.start;
    follows = subst (λ (cs : List Change). Follows p k.probed k.standings cs k.standings) (sym (no_changes p said all none)) refl;
  }

  -- a change more leaves the head
  pub same_head : (v : Version) (said : List Entry) (c : Change) (probed : Probed) (first : Standings)
      → StartsAs p probed (capture_of v said) first → StartsAs p probed (capture_of v (entry.Change c ∷ said)) first
  same_head v said c probed first s = record {
    power_up = s.power_up;
    running = λ on.
        let x = s.running on in
        record {
          lines = x.lines;
          low = x.low;
          said = record { shared = x.said.shared; probed = x.said.probed };
          high = x.high;
          known = x.known;
        };
  }

  known_late : (v : Version) (said : List Entry) (k : Known) (waits : List SeenChange) (text : List ℕ) → Judged p v None said (Some k) waits text → last_moment said ≡ None → ⊥
  known_late v [] k waits text h none = none_some k (sym h.0)
  known_late v (entry.Pin q ∷ said) k waits text h none = known_late v said k waits text h none
  known_late v (entry.Running ∷ said) k waits text h none = known_late v said k waits text h none
  known_late v (entry.Low x ∷ said) k waits text h none = known_late v said k waits text h none
  known_late v (entry.Moment m ∷ said) k waits text h none = none_some m (sym none)
  known_late v (entry.Change c ∷ said) k waits text h none = known_late v said h.0 h.1 h.2 h.4 none

  is_head : (o : Option ℕ) → is_none o ≡ true → o ≡ None
  is_head None h = refl
  is_head (Some m) h = absurd (true_false (sym h))

  too_late : (v : Version) (said : List Entry) (k : Known) (waits : List SeenChange) (text : List ℕ) (b : Bool) → Judged p v None said (Some k) waits text → (b && is_none (last_moment said)) ≡ true
      → ⊥
  too_late v said k waits text b h may = known_late v said k waits text h (is_head (last_moment said) (and_parts b (is_none (last_moment said)) may).1)

  -- a moment leaves it
  at_moment : (v : Version) (said : List Entry) (m : ℕ) (k : Known) → Tied v said k → Tied v (entry.Moment m ∷ said) k
  at_moment v said m k t = record {
    probed = t.probed;
    probed_is = t.probed_is;
    version = t.version;
    probes = t.probes;
    first = t.first;
    starts = t.starts;
    follows = t.follows;
  }

  -- behind a change
  at_change : (v : Version) (said : List Entry) (c : Change) (old new : Known) (d : Drivers) → Tied v said old → Leads p old c d new → Tied v (entry.Change c ∷ said) new
  at_change v said c old new d t f = record {
    probed = t.probed;
    probed_is = f.probed ∙ t.probed_is;
    version = t.version;
    probes = t.probes;
    first = t.first;
    starts = same_head v said c t.probed t.first t.starts;
    follows = (
      old.standings,
      f.hidden,
      t.follows,
      subst (λ x. HasMoved p x old.standings f.hidden) t.probed_is f.moved,
      subst (λ x. IsBehind p x f.hidden c new.standings) t.probed_is f.behind,
    );
  }

  pub tied : (v : Version) (said : List Entry) → AllSaid p said → (k : Known) (waits : List SeenChange) (text : List ℕ) → Judged p v None said (Some k) waits text → Tied v said k
  tied v [] all k waits text h = absurd (none_some k (sym h.0))
  tied v (entry.Pin q ∷ said) all k waits text h = absurd (too_late v said k waits text (not (is_running said)) h (said_stands p said (entry.Pin q) all.0))
  tied v (entry.Running ∷ said) all k waits text h = absurd (too_late v said k waits text (not (is_running said)) h (said_stands p said entry.Running all.0))
  tied v (entry.Low x ∷ said) all k waits text h = absurd (too_late v said k waits text (is_running said) h (said_stands p said (entry.Low x) all.0))
  tied v (entry.Moment m ∷ said) all k waits text h = by_before h.0 h.2 h.3 (λ j judged. tied v said all.1 j waits text judged)
    where
      same : h.1 ≡ k
      same = some_same h.1 k (sym h.4)

      by_before : (before : Option Known) → Judged p v None said before waits text → Begun p v said before h.1
          → ((j : Known) → Judged p v None said (Some j) waits text → Tied v said j) → Tied v (entry.Moment m ∷ said) k
      by_before None judged b earlier =
          at_moment v said m k (at_head v said all.1 (begun p v None said waits text judged) k (subst (λ x. Begins p v said x) same b))
      by_before (Some j) judged b earlier = at_moment v said m k (subst (λ x. Tied v said x) (b ∙ same) (earlier j judged))
  tied v (entry.Change c ∷ said) all k waits text h =
      subst (λ x. Tied v (entry.Change c ∷ said) x) (some_same h.3 k (sym h.6))
      (at_change v said c h.0 h.3 h.5.0.drivers (tied v said all.1 h.0 h.1 h.2 h.4) h.5.0.follows)

  -- at the end of a capture
  pub tied_end : (v : Version) (said : List Entry) → AllSaid p said → (before : Option Known) (waits : List SeenChange) (text : List ℕ) → Judged p v None said before waits text → (k : Known)
      → Begun p v said before k → Tied v said k
  tied_end v said all None waits text judged k b = at_head v said all (begun p v None said waits text judged) k b
  tied_end v said all (Some j) waits text judged k b = subst (λ x. Tied v said x) b (tied v said all j waits text judged)
