-- In the text of a capture that is impossible a condition is named for each driver of the change: `led_laws`.
use Rattle.std.proofs.Common.{◌≡◌, ◌⊎◌, ◌∙◌, ◌++◌, ◌∷◌, [], ℕ, Bool, true, false, not, List, Option, Some, None, Ok, reverse, refl, sym, ap, subst, inl, inr, arith}
use Rattle.std.specs.Prelude.{◌==◌, ◌&&◌, ◌||◌, is_none}
use Rattle.std.proofs.lemmas.Bool.{and_parts}
use Rattle.std.proofs.lemmas.Bool.Decides.{nat_tests}
use Rattle.std.proofs.lemmas.Nat.Bits.{bit_at-zero}
use Rattle.std.specs.Int.{bit_at}
use Rattle.vme_model.specs.declared.signals.Driver.{Driver}
use Rattle.vme_model.specs.declared.signals.Driver.TheVariants.{Controller, Slot}
use Rattle.vme_model.specs.declared.signals.Version.{Version}
use Rattle.vme_model.specs.Accepted.{IsAccepted}
use Rattle.vme_model.specs.Plan.{Plan}
use Rattle.vme_model.proofs.Bools.{same_number}
use Rattle.vme_bus.specs.Sets.{has}
use Rattle.vme_captures.specs.declared.signals.Change.{Change}
use Rattle.vme_captures.specs.declared.signals.Entry.{Entry}
use Rattle.vme_captures.specs.declared.signals.Entry.TheVariants as entry
use Rattle.vme_captures.specs.declared.signals.Line.TheVariants as line
use Rattle.vme_captures.specs.declared.signals.Signal.{Signal}
use Rattle.vme_captures.specs.declared.signals.Signal.TheVariants as signal
use Rattle.vme_captures.specs.Possible.{is_among}
use Rattle.vme_captures.specs.Reading.{capture_of, changes, is_running, last_moment, lows, pins, read_of}
use Rattle.vme_captures.specs.Signals.{is_change, is_same_signal, is_signal}
use Rattle.vme_captures.specs.Spelling.{may_be_low}
use Rattle.vme_captures.proofs.Same.{signal_same}
use Rattle.vme_reading.specs.declared.Status.TheVariants.{SomeRefused}
use Rattle.vme_reading.specs.Streams.{HasConsumed, IsReadOut, Streams, Wrote}
use Rattle.vme_standings.specs.declared.standings.Drivers.{Drivers}
use Rattle.vme_standings.specs.declared.standings.Probed.{Probed}
use Rattle.vme_standings.specs.declared.standings.Standings.{Standings}
use Rattle.vme_standings.specs.Behind.{IsBehind}
use Rattle.vme_standings.specs.Covers.{Among, AreProbed}
use Rattle.vme_standings.specs.Driving.{AreDrivers}
use Rattle.vme_standings.specs.Following.{Follows, StartsAs}
use Rattle.vme_standings.specs.Hidden.{HasMoved}
use Rattle.vme_standings.specs.Standings.{Drive, is_nobody}
use Rattle.vme_standings.proofs.Tests.{never}
use Rattle.vme_samples.specs.declared.samples.SeenChange.{SeenChange}
use Rattle.vme_probe.specs.declared.judging.Known.{Known}
use Rattle.vme_probe.specs.Hindered.{AreOthersHindered, is_hindered}
use Rattle.vme_probe.specs.Holding.{EndsAtHead, IsKnown}
use Rattle.vme_probe.specs.Knowing.{Begins, Begun, Follows as FollowsOne, IsStoppedAtEnd, IsUnbegun, Judged, Stops, StopsAt, StopsSample, seen_at}
use Rattle.vme_probe.specs.Led.{IsLed, Leads, TellsHindered}
use Rattle.vme_probe.specs.Probing.{IsImpossibleAtEnd, Probes, StopsIn}
use Rattle.vme_probe.specs.Stopped.{stopped_text}
use Rattle.vme_probe.proofs.Judged.{begun}
use Rattle.vme_probe.proofs.Leading.{led_hindered}
use Rattle.vme_probe.proofs.Refused.{one_more, read_first}
use Rattle.vme_probe.proofs.Said.{AllSaid, SaidBy, formed, said_stands}
use Rattle.vme_probe.proofs.SaidLevels.{seen_next}
use Rattle.vme_probe.proofs.Tied.{at_head, no_changes, same_head}
use Rattle.vme_probe.proofs.ToldFailing.{none_wait}

none_some : {A : Type 0} (a : A) → ◌≡◌ {A = Option A} None (Some a) → ⊥
none_some a h = cc

some_same : {A : Type 0} (a b : A) → ◌≡◌ {A = Option A} (Some a) (Some b) → a ≡ b
some_same a b h = cc

-- the head never says that DS* is low
data_high : (p : Plan) (said : List Entry) → AllSaid p said → is_among (lows said) (signal.Line line.DataStrobe) ≡ false
data_high p [] all = refl
data_high p (entry.Pin q ∷ said) all = data_high p said all.1
data_high p (entry.Running ∷ said) all = data_high p said all.1
data_high p (entry.Low y ∷ said) all =
    by_test (is_same_signal (signal.Line line.DataStrobe) y) refl (data_high p said all.1)
  where
    may : may_be_low y ≡ true
    may = (and_parts (is_signal y) (may_be_low y) (formed p said (entry.Low y) all.0)).1

    by_test : (b : Bool) → is_same_signal (signal.Line line.DataStrobe) y ≡ b → is_among (lows said) (signal.Line line.DataStrobe) ≡ false
        → (b || is_among (lows said) (signal.Line line.DataStrobe)) ≡ false
    by_test true same high = absurd (never (may_be_low y) may (ap may_be_low (sym (signal_same (signal.Line line.DataStrobe) y same))))
    by_test false same high = high
data_high p (entry.Moment m ∷ said) all = data_high p said all.1
data_high p (entry.Change c ∷ said) all = data_high p said all.1

module _ (p : Plan) (ok : IsAccepted p) where
  -- what is known behind what was said: somebody may have made each change
  record LedBy (v : Version) (said : List Entry) (k : Known) : Type 0 where
    pub probed : Probed
    pub probed_is : k.probed ≡ probed
    pub version : v ≡ probed.version
    pub probes : AreProbed p (pins said) probed.segments
    pub first : Standings
    pub starts : StartsAs p probed (capture_of v said) first
    pub leads : Leads p probed first (changes said) k.standings
    pub follows : Follows p probed first (changes said) k.standings

  led_at_head : (v : Version) (said : List Entry) → AllSaid p said → last_moment said ≡ None → (k : Known) → Begins p v said k → LedBy v said k
  led_at_head v said all none k b =
      let t = at_head p ok v said all none k b in
      let empty : changes said ≡ [] = no_changes p said all none in
      record {
        probed = t.probed;
        probed_is = t.probed_is;
        version = t.version;
        probes = t.probes;
        first = t.first;
        starts = t.starts;
        leads = subst (λ (cs : List Change). Leads p t.probed t.first cs k.standings) (sym empty) (subst (λ (cs : List Change). Follows p t.probed t.first cs k.standings) empty t.follows);
        follows = t.follows;
      }

  known_late : (v : Version) (said : List Entry) (k : Known) (waits : List SeenChange) (text : List ℕ) → Judged p v None said (Some k) waits text → last_moment said ≡ None → ⊥
  known_late v [] k waits text h none = none_some k (sym h.0)
  known_late v (entry.Pin q ∷ said) k waits text h none = known_late v said k waits text h none
  known_late v (entry.Running ∷ said) k waits text h none = known_late v said k waits text h none
  known_late v (entry.Low x ∷ said) k waits text h none = known_late v said k waits text h none
  known_late v (entry.Moment m ∷ said) k waits text h none = none_some m (sym none)
  known_late v (entry.Change c ∷ said) k waits text h none = known_late v said h.0 h.1 h.2 h.4 none

  is_head : (o : Option ℕ) → is_none o ≡ true → o ≡ None
  is_head None h = refl
  is_head (Some m) h = absurd (never false h refl)

  too_late : (v : Version) (said : List Entry) (k : Known) (waits : List SeenChange) (text : List ℕ) (b : Bool) → Judged p v None said (Some k) waits text → (b && is_none (last_moment said)) ≡ true
      → ⊥
  too_late v said k waits text b h may = known_late v said k waits text h (is_head (last_moment said) (and_parts b (is_none (last_moment said)) may).1)

  -- a moment leaves it
  led_at_moment : (v : Version) (said : List Entry) (m : ℕ) (k : Known) → LedBy v said k → LedBy v (entry.Moment m ∷ said) k
  led_at_moment v said m k t = record {
    probed = t.probed;
    probed_is = t.probed_is;
    version = t.version;
    probes = t.probes;
    first = t.first;
    starts = t.starts;
    leads = t.leads;
    follows = t.follows;
  }

  -- behind a change
  led_at_change : (v : Version) (said : List Entry) (c : Change) (old new : Known) (d : Drivers) → is_change c ≡ true → LedBy v said old → FollowsOne p old c d new
      → LedBy v (entry.Change c ∷ said) new
  led_at_change v said c old new d change t f =
      let moved = subst (λ x. HasMoved p x old.standings f.hidden) t.probed_is f.moved in
      let behind = subst (λ x. IsBehind p x f.hidden c new.standings) t.probed_is f.behind in
      record {
        probed = t.probed;
        probed_is = f.probed ∙ t.probed_is;
        version = t.version;
        probes = t.probes;
        first = t.first;
        starts = same_head p ok v said c t.probed t.first t.starts;
        leads = (old.standings, f.hidden, d, t.leads, moved, subst (λ x. AreDrivers p x f.hidden c d) t.probed_is f.drivers, f.some, change, behind);
        follows = (old.standings, f.hidden, t.follows, moved, behind);
      }

  led_by : (v : Version) (said : List Entry) → AllSaid p said → (k : Known) (waits : List SeenChange) (text : List ℕ) → Judged p v None said (Some k) waits text → LedBy v said k
  led_by v [] all k waits text h = absurd (none_some k (sym h.0))
  led_by v (entry.Pin q ∷ said) all k waits text h = absurd (too_late v said k waits text (not (is_running said)) h (said_stands p said (entry.Pin q) all.0))
  led_by v (entry.Running ∷ said) all k waits text h = absurd (too_late v said k waits text (not (is_running said)) h (said_stands p said entry.Running all.0))
  led_by v (entry.Low x ∷ said) all k waits text h = absurd (too_late v said k waits text (is_running said) h (said_stands p said (entry.Low x) all.0))
  led_by v (entry.Moment m ∷ said) all k waits text h = by_before h.0 h.2 h.3 (λ j judged. led_by v said all.1 j waits text judged)
    where
      same : h.1 ≡ k
      same = some_same h.1 k (sym h.4)

      by_before : (before : Option Known) → Judged p v None said before waits text → Begun p v said before h.1
          → ((j : Known) → Judged p v None said (Some j) waits text → LedBy v said j) → LedBy v (entry.Moment m ∷ said) k
      by_before None judged b earlier =
          led_at_moment v said m k (led_at_head v said all.1 (begun p v None said waits text judged) k (subst (λ x. Begins p v said x) same b))
      by_before (Some j) judged b earlier = led_at_moment v said m k (subst (λ x. LedBy v said x) (b ∙ same) (earlier j judged))
  led_by v (entry.Change c ∷ said) all k waits text h =
      subst (λ x. LedBy v (entry.Change c ∷ said) x) (some_same h.3 k (sym h.6))
      (led_at_change v said c h.0 h.3 h.5.0.drivers (formed p said (entry.Change c) all.0) (led_by v said all.1 h.0 h.1 h.2 h.4) h.5.0.follows)

  -- ---- a change that nobody may have made

  no_maker : (may : Drivers) → is_nobody may ≡ true → (may.controller ≡ false) × ((s : ℕ) → has may.boards s ≡ false)
  no_maker may nobody = (denied may.controller k.0, λ s. ap (λ n. bit_at n s == 1) (same_number may.boards.bits 0 k.1) ∙ ap (λ n. n == 1) (bit_at-zero s))
    where
      k : (not may.controller ≡ true) × ((may.boards.bits == 0) ≡ true)
      k = and_parts (not may.controller) (may.boards.bits == 0) nobody

      denied : (b : Bool) → not b ≡ true → b ≡ false
      denied true h = absurd (never false h refl)
      denied false h = refl

  each_hindered : (version : Version) (st : Standings) (c : Change) (may owners : Drivers) → AreOthersHindered p version st c may → is_nobody may ≡ true → Drive p c.signal owners
      → (d : Driver) → Among owners d → is_hindered p version st c d ≡ true
  each_hindered version st c may owners h nobody are Controller is = h.controller (sym are.controller ∙ is) (no_maker may nobody).0
  each_hindered version st c may owners h nobody are (Slot s) is = h.boards s (sym (are.boards s) ∙ is) ((no_maker may nobody).1 s)

  module _ (bytes : List ℕ) where
    stop_told : (text : List ℕ) → StopsIn p None (read_of p bytes) text → EndsAtHead text ⊎ TellsHindered p (read_of p bytes) text
    stop_told text x = by_next x.next x.are x.stops
      where
        by_next : (e : Entry) → (read_of p bytes).entries ≡ reverse x.said ++ e ∷ x.others → StopsAt p x.version None x.said e text → EndsAtHead text ⊎ TellsHindered p (read_of p bytes) text
        by_next (entry.Moment m) are (waits, lines, judged, cannot, is) = inl (lines, is)
        by_next (entry.Change c) are (before, waiting, lines, last, judged, stops, is) =
            let all = read_first p bytes x.said (entry.Change c ∷ x.others) are in
            let t = led_by x.version x.said all before waiting lines judged in
            let same : before.probed.version ≡ x.version = ap (λ y. y.version) t.probed_is ∙ sym t.version in
            inr (record {
              version = x.version;
              said = x.said;
              change = c;
              others = x.others;
              are = are;
              known = stops.hidden;
              moment = (seen_at x.said c).moment;
              drivers = stops.owners;
              have_it = stops.owners_are;
              lines = lines;
              is = is ∙ ap (λ l. lines ++ l) (stops.is ∙ ap (λ v. stopped_text p v stops.hidden (seen_at x.said c).moment c stops.owners) same);
              probed = t.probed;
              led = led_of before t stops.hidden stops.moved;
              hindered =
                  each_hindered x.version stops.hidden c stops.makers stops.owners
                  (others_hindered before t stops.hidden stops.moved stops.makers stops.makers_are) stops.nobody stops.owners_are;
            })
          where
            said_next : AllSaid p x.said → SaidBy p x.said (entry.Change c)
            said_next all = (read_first p bytes (entry.Change c ∷ x.said) x.others (are ∙ one_more (entry.Change c) x.said x.others)).0

            led_of : (k : Known) (t : LedBy x.version x.said k) (hidden : Standings) → HasMoved p k.probed k.standings hidden → IsLed p t.probed (capture_of x.version x.said) hidden
            led_of k t hidden moved = record {
              known = record {
                version = t.version;
                probes = t.probes;
                first = t.first;
                behind = k.standings;
                starts = t.starts;
                follows = t.follows;
                hidden = subst (λ y. HasMoved p y k.standings hidden) t.probed_is moved;
              };
              high = data_high p x.said (read_first p bytes x.said (entry.Change c ∷ x.others) are);
              leads = t.leads;
            }

            others_hindered : (k : Known) → LedBy x.version x.said k → (hidden : Standings) → HasMoved p k.probed k.standings hidden → (makers : Drivers) → AreDrivers p k.probed hidden c makers
                → AreOthersHindered p x.version hidden c makers
            others_hindered k t hidden moved makers who =
                let all = read_first p bytes x.said (entry.Change c ∷ x.others) are in
                let says = said_next all in
                led_hindered p t.probed (capture_of x.version x.said) hidden c makers ok (led_of k t hidden moved)
                (subst (λ y. AreDrivers p y hidden c makers) t.probed_is who)
                (seen_next p ok x.version x.said all t.probed t.first t.starts c says t.probes k.standings hidden t.follows moved.lines moved.low)
                (formed p x.said (entry.Change c) says)
        by_next (entry.Pin q) are h = absurd h
        by_next entry.Running are h = absurd h
        by_next (entry.Low y) are h = absurd h

    end_told : (text : List ℕ) → IsImpossibleAtEnd p None (read_of p bytes) text → EndsAtHead text ⊎ TellsHindered p (read_of p bytes) text
    end_told text x = by_end x.is
      where
        none_more : (s : SeenChange) (waits : List SeenChange) → s ∷ waits ≡ [] → ⊥
        none_more s waits h = cc

        nothing_stops : (known : Known) (text : List ℕ) (waits : List SeenChange) → waits ≡ [] → StopsSample p known waits text → ⊥
        nothing_stops known text [] is h = h
        nothing_stops known text (s ∷ waits) is h = absurd (none_more s waits is)

        by_end : IsUnbegun p x.version None x.said text ⊎ IsStoppedAtEnd p x.version None x.said text → EndsAtHead text ⊎ TellsHindered p (read_of p bytes) text
        by_end (inl u) = inl (u.lines, u.is)
        by_end (inr s) = absurd (nothing_stops s.known s.others s.waits (none_wait p x.version x.said (Some s.known) s.waits s.lines s.judged) s.stops)

pub printed_hindered : (p : Plan) (bytes : List ℕ) (s : Streams) → IsAccepted p → Probes p None bytes s (Ok SomeRefused)
    → (read : List ℕ) × (text : List ℕ) × (HasConsumed s read ⊎ (IsReadOut s × (read ≡ bytes))) × (EndsAtHead text ⊎ TellsHindered p (read_of p read) text) × Wrote s text
printed_hindered p bytes s ok h = by_place h.3
  where
    by_place : StopsIn p None (read_of p h.0) h.2 ⊎ (IsReadOut s × IsImpossibleAtEnd p None (read_of p bytes) h.2)
        → (read : List ℕ) × (text : List ℕ) × (HasConsumed s read ⊎ (IsReadOut s × (read ≡ bytes))) × (EndsAtHead text ⊎ TellsHindered p (read_of p read) text) × Wrote s text
    by_place (inl x) = (h.0, h.2, inl h.1, stop_told p ok h.0 h.2 x, h.4)
    by_place (inr x) = (bytes, h.2, inr (x.0, refl), end_told p ok bytes h.2 x.1, h.4)
