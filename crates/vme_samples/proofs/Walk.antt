-- Change by change along an order of a sample: what is known behind the changes made so far covers
-- every list of edges that shows them, and whoever made each is among those who may have.
use Rattle.std.proofs.Common.{◌≡◌, ◌≢◌, ◌⊎◌, ◌∙◌, ◌<◌, ◌≤◌, ◌+◌, ◌-◌, ◌^◌, ℕ, zero, suc, Bool, true, false, List, [], ◌∷◌, ◌++◌, length, inl, inr, refl, sym, ap, subst, arith}
use Rattle.std.specs.Prelude.{◌&&◌, not, Option, Some, None, is_some, option_map, nat_le}
use Rattle.std.specs.List.{slice_get}
use Rattle.std.specs.Option.{option_and_then, option_map_or}
use Rattle.std.proofs.Math.Pow.{pow-lt, pow_pos}
use Rattle.std.proofs.lemmas.Bool.{cases_lt}
use Rattle.std.proofs.lemmas.Bool.Decides.{nat_tests}
use Rattle.std.proofs.lemmas.Option.{slice_get_within}
use Rattle.vme_model.specs.Accepted.{IsAccepted}
use Rattle.vme_model.specs.History.{line as line_of_history}
use Rattle.vme_model.specs.Plan.{Plan, board_of}
use Rattle.vme_model.specs.Verdict.{IsLegal}
use Rattle.vme_model.specs.declared.signals.Driver.{Driver}
use Rattle.vme_model.specs.declared.signals.Driver.TheVariants.{Controller, Slot}
use Rattle.vme_model.specs.declared.signals.Edge.{Edge}
use Rattle.vme_model.specs.declared.signals.Wire.TheVariants as wire
use Rattle.vme_model.proofs.Bools.{and_left, and_right}
use Rattle.vme_captures.specs.declared.signals.Change.{Change}
use Rattle.vme_captures.specs.declared.signals.Line.{Line}
use Rattle.vme_captures.specs.declared.signals.Line.TheVariants as line
use Rattle.vme_captures.specs.declared.signals.Pin.{Pin}
use Rattle.vme_captures.specs.declared.signals.Segment.{Segment}
use Rattle.vme_captures.specs.declared.signals.Signal.TheVariants as signal
use Rattle.vme_captures.specs.Changes.{agrees, are_values_of, differ, is_same_way, seen, segment_of, signal_on}
use Rattle.vme_captures.specs.Possible.{AgreeEach, Sighting, sightings, with_sighting}
use Rattle.vme_captures.specs.Signals.{is_same_signal}
use Rattle.vme_captures.specs.Wires.{pin_on, wire_of}
use Rattle.vme_captures.proofs.Same.{signal_same}
use Rattle.vme_standings.specs.declared.standings.Drivers.{Drivers}
use Rattle.vme_standings.specs.declared.standings.Probed.{Probed}
use Rattle.vme_standings.specs.declared.standings.Shown.{Shown}
use Rattle.vme_standings.specs.declared.standings.Standings.{Standings}
use Rattle.vme_standings.specs.Covers.{AreProbed, Among, Covers}
use Rattle.vme_standings.specs.Driving.{AreDrivers}
use Rattle.vme_standings.specs.Standings.{is_nobody}
use Rattle.vme_standings.proofs.JoinedHidden.{moved_covers, unseen_covered}
use Rattle.vme_standings.proofs.JoinedLevels.{seen_turned}
use Rattle.vme_standings.proofs.JoinedRows.{seen_step, somebody}
use Rattle.vme_standings.proofs.JoinedSegments.{no_line}
use Rattle.vme_standings.proofs.SeenEdges.{segment_is, signal_is}
use Rattle.vme_standings.proofs.SeenLines.{differs}
use Rattle.vme_standings.proofs.Tests.{both, never}
use Rattle.vme_standings.proofs.UnionCovers.{first_covers, second_covers}
use Rattle.vme_samples.specs.declared.places.Places.{Places}
use Rattle.vme_samples.specs.declared.samples.SeenChange.{SeenChange}
use Rattle.vme_samples.specs.Orders.{AreInOrder, AreNamed, CoversHidden, ShowsIn, all_of, set_of}
use Rattle.vme_samples.specs.Places.{has_place, with, without}
use Rattle.vme_samples.specs.Samples.{comes_next, is_of}
use Rattle.vme_samples.specs.Ways.{AreAmong, AreMakers, AreOf, AreWays, Gathered, Hides, Joins, Known, LedTo, Steps, hidden_behind, reaching_at}
use Rattle.vme_samples.proofs.Next.{Next, earlier_of, next_of, said_before}
use Rattle.vme_samples.proofs.OneMore.{all_in, none_in, same_places, taken_out, with_here, with_more, with_near, with_other}
use Rattle.vme_samples.proofs.Reached.{AllFit, BeforeTold, Told, fits_before, gathered_told, led_told, moved_behind, reached_told, same_known}
use Rattle.vme_samples.proofs.Tells.{Fits, alike, says_fall, says_shown, strobe}
use Rattle.vme_samples.proofs.TellsNext.{one_of}

same_way : (a b : Bool) → is_same_way a b ≡ true → a ≡ b
same_way true true e = refl
same_way false false e = refl
same_way true false e = absurd (never false e refl)
same_way false true e = absurd (never false e refl)

before_turn : (a b : Bool) → differ a b ≡ true → a ≡ not b
before_turn true true d = absurd (never false d refl)
before_turn true false d = refl
before_turn false true d = refl
before_turn false false d = absurd (never false d refl)

-- taken out again
put_back : (set : Places) (i : ℕ) → without (with set i) i ≡ set
put_back set i = same_places (without (with set i) i) set (omega arith)

module _ (p : Plan) (ok : IsAccepted p) (pins : List Pin) (probed : Probed) (sample : List SeenChange) (start : Standings) (known : Known) (ways : AreWays p probed start sample known) where
  -- whatever is gathered behind the set, it is something, and covers the bus with the hidden moves
  abbrev pub GatheredCovers : Places → List Edge → Type 0
  GatheredCovers set h =
      (o : Option Standings) → Gathered p probed sample known set (length sample) o
      → (st : Standings) × (o ≡ Some st) × CoversHidden p pins probed h st

  -- ---- one change that is seen

  module _ (h : List Edge) (e : Edge) (v : Change) (legal : IsLegal probed.version p (e ∷ h)) (s : seen p pins h e ≡ Some v) (set : Places) (near : set.bits < 2 ^ length sample)
      (fits : AllFit p ok pins probed sample start set) (st : Standings) (at : hidden_behind known set ≡ Some st) (covers : Covers p pins h st)
      (i : ℕ) (next : comes_next sample set i ≡ true) (c : Change) (is : option_map (λ x. x.change) (slice_get sample i) ≡ Some c) (agree : agrees c v ≡ true) where
    abbrev pub n : Next sample set i
    n = next_of sample set i next

    told : Told p ok pins probed sample start set st
    told = reached_told p ok pins probed sample start known ways (suc set.bits) set (omega arith) near fits st at

    change_is : n.seen.change ≡ c
    change_is = same n.seen.change c (sym (ap (option_map (λ x. x.change)) n.at) ∙ is)
      where
        same : (a b : Change) → Some a ≡ Some b → a ≡ b
        same a b x = cc

    abbrev pub k : Change
    k = n.seen.change

    agreed : agrees k v ≡ true
    agreed = subst (λ x. agrees x v ≡ true) (sym change_is) agree

    first : (is_same_signal k.signal v.signal && is_same_way k.fall v.fall) ≡ true
    first = and_left (is_same_signal k.signal v.signal && is_same_way k.fall v.fall) (are_values_of k.value v.value) agreed

    signal_as : k.signal ≡ v.signal
    signal_as = signal_same k.signal v.signal (and_left (is_same_signal k.signal v.signal) (is_same_way k.fall v.fall) first)

    fall_as : k.fall ≡ v.fall
    fall_as = same_way k.fall v.fall (and_right (is_same_signal k.signal v.signal) (is_same_way k.fall v.fall) first)

    -- ---- it is one of a probe that a backplane can show

    same_seen : (a b : SeenChange) → Some a ≡ Some b → a ≡ b
    same_seen a b x = cc

    probed_pin : (q : Pin) → v.signal ≡ signal.Pin q → pin_on p pins (wire_of p q) ≡ Some q
    probed_pin q on =
        some_pin (pin_on p pins (wire_of p q))
        (sym (ap (λ (g : Option Segment). option_map (λ x. signal.Pin x) (option_and_then (pin_on p pins) g)) (segment_is p pins h e v s q on))
        ∙ sym (ap (λ (l : Option Line). signal_on p pins l (segment_of e.wire (board_of p e.driver))) (no_line e.wire (board_of p e.driver) (wire_of p q) (segment_is p pins h e v s q on)))
        ∙ signal_is p pins h e v s ∙ ap (λ x. Some x) on)
      where
        some_pin : (o : Option Pin) → option_map (λ x. signal.Pin x) o ≡ Some (signal.Pin q) → o ≡ Some q
        some_pin None x = absurd (cc)
        some_pin (Some a) x = cc

    -- something is shown exactly while AS* is low
    shown_as : is_some st.shown ≡ line_of_history p h wire.AddressStrobe
    shown_as = by_level (line_of_history p h wire.AddressStrobe) refl
      where
        by_level : (b : Bool) → line_of_history p h wire.AddressStrobe ≡ b → is_some st.shown ≡ b
        by_level true low = covers.shown.low low
        by_level false high = ap (λ (y : Option Shown). is_some y) (covers.shown.high high)

    strobe_turns : k.signal ≡ strobe → is_some st.shown ≡ not k.fall
    strobe_turns on =
        shown_as
        ∙ before_turn (line_of_history p h wire.AddressStrobe) (line_of_history p (e ∷ h) wire.AddressStrobe) (differs p ok pins h e v s strobe (sym signal_as ∙ on))
        ∙ ap not (seen_turned p ok h e pins v s line.AddressStrobe (sym signal_as ∙ on) ∙ sym fall_as)

    fits_here : Fits p pins sample start i
    fits_here = record {
      wire = λ x q found on. probed_pin q (sym signal_as ∙ ap (λ (y : SeenChange). y.change.signal) (same_seen n.seen x (sym n.at ∙ found)) ∙ on);
      strobe = λ own.
          let on : k.signal ≡ strobe = strobe_is own in
          ap (λ (y : Option Shown). is_some y)
          (sym (said_before sample set i n told.closed (is_of sample strobe)
          (one_of p ok pins probed sample start set i n told.closed st told.tells strobe)
          (says_shown sample) start.shown own (earlier_of sample set i n strobe on)) ∙ sym told.tells.shown)
          ∙ strobe_turns on ∙ ap not (sym (falls_at));
    }
      where
        falls_at : says_fall sample i ≡ k.fall
        falls_at = ap (λ o. option_map_or (λ (x : SeenChange). x.change.fall) o false) n.at

        strobe_is : is_of sample strobe i ≡ true → k.signal ≡ strobe
        strobe_is own = signal_same k.signal strobe (sym (ap (λ o. option_map_or (λ (x : SeenChange). is_same_signal x.change.signal strobe) o false) n.at) ∙ own)

    pub fits_now : AllFit p ok pins probed sample start (with set i)
    fits_now j on = by_place (cases_lt i j) (cases_lt j i)
      where
        other : j ≢ i → Fits p pins sample start j
        other apart = fits j (sym (with_other set i j n.off apart) ∙ on)

        by_place : (i < j) ⊎ (j ≤ i) → (j < i) ⊎ (i ≤ j) → Fits p pins sample start j
        by_place (inl l) y = other (λ q. absurd (omega (arith, l, q)))
        by_place (inr l) (inl m) = other (λ q. absurd (omega (arith, m, q)))
        by_place (inr l) (inr m) = let q : i ≡ j = omega (arith, l, m) in subst (Fits p pins sample start) q fits_here

    pub near_now : (with set i).bits < 2 ^ length sample
    near_now = with_near set i (length sample) n.off near (slice_get_within sample i n.seen n.at)

    -- ---- what is known behind it covers the bus

    pub made_by : (d : Drivers) → AreDrivers p probed st k d → (is_nobody d ≡ false) × Among d e.driver
    made_by d drivers =
        let among = (seen_step probed p ok pins h e v legal s st covers k agreed).by d drivers in
        (somebody d e.driver among, among)

    -- some standings, which cover the bus with the edge
    pub record Covered (o : Option Standings) : Type 0 where
      pub now : Standings
      pub found : o ≡ Some now
      pub over : Covers p pins (e ∷ h) now

    before_told : BeforeTold p ok pins probed sample start known (with set i)
    before_told j on m x found =
        let less = subst (λ y. (without (with set i) j).bits < y.bits) (taken_out (with set i) j on) (with_more (without (with set i) j) j) in
        reached_told p ok pins probed sample start known ways (suc (without (with set i) j).bits) (without (with set i) j) (omega arith) (omega (arith, less, near_now))
        (fits_before p ok pins probed sample start known ways (with set i) j on m fits_now) x found

    led_covers : (one : Option Standings) → LedTo p probed sample known (with set i) i one → Covered one
    led_covers one led =
        of_steps one
        (subst (λ o. Steps p probed o (Some n.seen) one) at
        (subst (λ o. Steps p probed (hidden_behind known set) o one) n.at
        (subst (λ x. Steps p probed (hidden_behind known x) (slice_get sample i) one) (put_back set i)
        (led.able (both (has_place (with set i) i) (comes_next sample (without (with set i) i) i) (with_here set i n.off)
        (subst (λ x. comes_next sample x i ≡ true) (sym (put_back set i)) next))))))
      where
        of_steps : (o : Option Standings) → Steps p probed (Some st) (Some n.seen) o → Covered o
        of_steps None cannot = absurd (never (is_nobody cannot.drivers) cannot.nobody (made_by cannot.drivers cannot.are).0)
        of_steps (Some x) makes = record { now = x; found = refl; over = (seen_step probed p ok pins h e v legal s st covers k agreed).covers x makes.behind }

    gathered_covers : (m : ℕ) → i < m → (new : Option Standings) → Gathered p probed sample known (with set i) m new → Covered new
    gathered_covers zero l new gathered = absurd (omega (arith, l))
    gathered_covers (suc m) l new (others, one, gathered, led, joins) = by_order (cases_lt i m) (λ x. gathered_covers m x others gathered)
      where
        kept : (a b : Option Standings) → Joins a b new → Covered a → Covered new
        kept None b j c = absurd (let x = c.found in cc)
        kept (Some a) None j c = record { now = c.now; found = j ∙ c.found; over = c.over }
        kept (Some a) (Some b) (u, unites, j) c =
            record {
              now = u;
              found = j;
              over = first_covers probed.version p pins ok (e ∷ h) legal a b u unites (subst (Covers p pins (e ∷ h)) (sym (same_known a c.now c.found)) c.over);
            }

        added : (a b : Option Standings) → Joins a b new → ((x : Standings) → a ≡ Some x → Told p ok pins probed sample start (with set i) x)
            → ((x : Standings) → b ≡ Some x → Told p ok pins probed sample start (with set i) x) → Covered b → Covered new
        added None b j ta tb c = record { now = c.now; found = j ∙ c.found; over = c.over }
        added (Some a) None j ta tb c = absurd (let x = c.found in cc)
        added (Some a) (Some b) (u, unites, j) ta tb c =
            record {
              now = u;
              found = j;
              over = second_covers probed.version p pins ok (e ∷ h) legal a b u unites
                  (alike p sample start (with set i) a b (ta a refl).tells (tb b refl).tells)
                  (subst (Covers p pins (e ∷ h)) (sym (same_known b c.now c.found)) c.over);
            }

        by_order : (i < m) ⊎ (m ≤ i) → (i < m → Covered others) → Covered new
        by_order (inl x) rest = kept others one joins (rest x)
        by_order (inr x) rest =
            let q : m ≡ i = omega (arith, l, x) in
            added others one joins
            (gathered_told p ok pins probed sample start known (with set i) fits_now before_told m others gathered)
            (led_told p ok pins probed sample start known (with set i) fits_now before_told m one led)
            (led_covers one (subst (λ j. LedTo p probed sample known (with set i) j one) q led))

    pub gathered_now : GatheredCovers (with set i) (e ∷ h)
    gathered_now o gathered =
        let c = gathered_covers (length sample) (slice_get_within sample i n.seen n.at) o gathered in
        (c.now, c.found, λ hidden moved. moved_covers p ok probed pins c.now hidden moved (e ∷ h) legal c.over)

    pub covered_now : Covered (hidden_behind known (with set i))
    covered_now =
        let more = with_more set i in
        let w = ways.others (with set i) (omega (arith, more)) near_now in
        of_hides w.at w.hides (gathered_covers (length sample) (slice_get_within sample i n.seen n.at) w.at w.gathered)
      where
        of_hides : (o : Option Standings) → Hides p probed o (hidden_behind known (with set i)) → Covered o → Covered (hidden_behind known (with set i))
        of_hides None none c = absurd (let x = c.found in cc)
        of_hides (Some x) (hidden, moved, at_last) c =
            record {
              now = hidden;
              found = at_last;
              over = moved_covers p ok probed pins x hidden moved (e ∷ h) legal (subst (Covers p pins (e ∷ h)) (sym (same_known x c.now c.found)) c.over);
            }

  -- ---- all of them

  -- the change at the place was seen behind the others, and this is known behind them
  pub record Stepped (places : List ℕ) (i : ℕ) (x : Sighting) : Type 0 where
    pub seen : SeenChange
    pub found : slice_get sample i ≡ Some seen
    pub next : comes_next sample (set_of places) i ≡ true
    pub near : (with (set_of places) i).bits < 2 ^ length sample
    pub st : Standings
    pub at : hidden_behind known (set_of places) ≡ Some st
    pub by : (d : Drivers) → AreDrivers p probed st seen.change d → (is_nobody d ≡ false) × Among d x.driver

  abbrev pub AreStepped : List ℕ → List Sighting → Type 0
  AreStepped [] [] = Unit {0}
  AreStepped (i ∷ places) (x ∷ xs) = AreStepped places xs × Stepped places i x
  AreStepped _ _ = ⊥

  pub record Walked (places : List ℕ) (h : List Edge) (xs : List Sighting) : Type 0 where
    pub st : Standings
    pub at : hidden_behind known (set_of places) ≡ Some st
    pub covers : Covers p pins h st
    pub near : (set_of places).bits < 2 ^ length sample
    pub fits : AllFit p ok pins probed sample start (set_of places)
    pub gathered : 0 < (set_of places).bits → GatheredCovers (set_of places) h
    pub steps : AreStepped places xs

  module _ (probes : AreProbed p pins probed.segments) (g : List Edge) (covers : CoversHidden p pins probed g start) where
    none_made : Walked [] g []
    none_made =
        let w = ways.begins in
        record {
          st = w.0;
          at = w.2;
          covers = covers w.0 w.1;
          near = pow_pos (length sample);
          gathered = λ pos. absurd (omega (arith, pos));
          fits = λ j on. absurd (never (has_place (set_of []) j) on (none_in (set_of []) refl j));
          steps = tt;
        }

    pub walked : (h : List Edge) → IsLegal probed.version p (h ++ g) → (places : List ℕ) (cs : List Change) → AreInOrder sample places cs → AgreeEach cs (sightings p pins g h)
        → Walked places (h ++ g) (sightings p pins g h)
    walked [] legal [] [] order agree = none_made
    walked [] legal [] (c ∷ cs) order agree = absurd agree
    walked [] legal (i ∷ places) [] order agree = absurd order
    walked [] legal (i ∷ places) (c ∷ cs) order agree = absurd agree
    walked (e ∷ h) legal places cs order agree = by_sight (seen p pins (h ++ g) e) refl places cs order agree (walked h legal.1)
      where
        by_sight : (o : Option Change) → seen p pins (h ++ g) e ≡ o → (places : List ℕ) (cs : List Change) → AreInOrder sample places cs
            → AgreeEach cs (with_sighting e.driver o (sightings p pins g h))
            → ((is : List ℕ) (ks : List Change) → AreInOrder sample is ks → AgreeEach ks (sightings p pins g h) → Walked is (h ++ g) (sightings p pins g h))
            → Walked places (e ∷ (h ++ g)) (with_sighting e.driver o (sightings p pins g h))
        by_sight None none places cs order agree before =
            let w = before places cs order agree in
            let m = moved_behind p ok pins probed sample start known ways (set_of places) w.near w.st w.at in
            record {
              st = w.st;
              at = w.at;
              covers = unseen_covered p ok probed pins m.0 w.st m.1 (h ++ g) probes e legal none w.covers;
              near = w.near;
              fits = w.fits;
              gathered = λ pos o x.
                  let y = w.gathered pos o x in
                  (y.0, y.1, λ hidden moved. unseen_covered p ok probed pins y.0 hidden moved (h ++ g) probes e legal none (y.2 hidden moved));
              steps = w.steps;
            }
        by_sight (Some v) is [] [] order agree before = absurd agree
        by_sight (Some v) is [] (c ∷ cs) order agree before = absurd order
        by_sight (Some v) is (i ∷ places) [] order agree before = absurd order
        by_sight (Some v) is (i ∷ places) (c ∷ cs) order agree before =
            let w = before places cs order.0 agree.1 in
            let n = next_of sample (set_of places) i order.1 in
            let now = covered_now (h ++ g) e v legal is (set_of places) w.near w.fits w.st w.at w.covers i order.1 c order.2 agree.0 in
            record {
              st = now.now;
              at = now.found;
              covers = now.over;
              near = near_now (h ++ g) e v legal is (set_of places) w.near w.fits w.st w.at w.covers i order.1 c order.2 agree.0;
              fits = fits_now (h ++ g) e v legal is (set_of places) w.near w.fits w.st w.at w.covers i order.1 c order.2 agree.0;
              gathered = λ pos. gathered_now (h ++ g) e v legal is (set_of places) w.near w.fits w.st w.at w.covers i order.1 c order.2 agree.0;
              steps = (
                w.steps,
                record {
                  seen = n.seen;
                  found = n.at;
                  next = order.1;
                  near = near_now (h ++ g) e v legal is (set_of places) w.near w.fits w.st w.at w.covers i order.1 c order.2 agree.0;
                  st = w.st;
                  at = w.at;
                  by = made_by (h ++ g) e v legal is (set_of places) w.near w.fits w.st w.at w.covers i order.1 c order.2 agree.0;
                },
              );
            }

  -- ---- who made them

  module _ (goal : Places) (goal_is : goal.bits ≡ 2 ^ length sample - 1) (by : ℕ → Drivers) (makers : AreMakers p probed sample known goal by) where
    among_all : (a b : Drivers) → AreAmong a b → (d : Driver) → Among a d → Among b d
    among_all a b among Controller on = among.controller on
    among_all a b among (Slot s) on = among.boards s on

    within : (set : Places) → set.bits < 2 ^ length sample → set.bits ≤ goal.bits
    within set l = omega (arith, l, goal_is)

    pub named : (places : List ℕ) (xs : List Sighting) → AreStepped places xs → reaching_at makers.reaching (set_of places) ≡ true → AreNamed by places xs
    named [] [] steps reaches = tt
    named [] (x ∷ xs) steps reaches = absurd steps
    named (i ∷ places) [] steps reaches = absurd steps
    named (i ∷ places) (x ∷ xs) (rest, step) reaches =
        let less = with_more (set_of places) i in
        let l = step.near in
        let a = (makers.each i (slice_get_within sample i step.seen step.found)).all (set_of places) (within (set_of places) (omega (arith, less, l))) in
        let d : AreDrivers p probed step.st step.seen.change a.drivers =
        subst (λ o. AreOf p probed (Some step.st) o a.drivers) step.found
        (subst (λ o. AreOf p probed o (slice_get sample i) a.drivers) step.at
        (a.next.able step.next (both (nat_le (with (set_of places) i).bits goal.bits) (reaching_at makers.reaching (with (set_of places) i))
        (le (with (set_of places) i).bits goal.bits (within (with (set_of places) i) l)) reaches))) in
        let m = step.by a.drivers d in
        (among_all a.drivers (by i) a.among x.driver m.1, named places xs rest (a.reaches m.0))
      where
        le : (a b : ℕ) → a ≤ b → nat_le a b ≡ true
        le a b x = grind (arith, nat_tests)

  -- ---- an order of the whole sample

  module _ (probes : AreProbed p pins probed.segments) (g : List Edge) (covers : CoversHidden p pins probed g start) (h : List Edge) (shows : ShowsIn probed.version p pins g h sample) where
    walk : Walked shows.places (h ++ g) (sightings p pins g h)
    walk = walked probes g covers h shows.legal shows.places shows.changes shows.order.ordered shows.agree

    whole : set_of shows.places ≡ all_of sample
    whole = same_places (set_of shows.places) (all_of sample) (all_in (set_of shows.places) (length sample) walk.near shows.order.whole)

    pub order_reached : (st : Standings) × (hidden_behind known (all_of sample) ≡ Some st) × Covers p pins (h ++ g) st
    order_reached = (walk.st, subst (λ s. hidden_behind known s ≡ Some walk.st) whole walk.at, walk.covers)

    pub order_gathered : 0 < length sample → GatheredCovers (all_of sample) (h ++ g)
    order_gathered some =
        let l : 0 < (set_of shows.places).bits = subst (λ (s : Places). 0 < s.bits) (sym whole) (more (length sample) some) in
        subst (λ s. GatheredCovers s (h ++ g)) whole (walk.gathered l)
      where
        more : (n : ℕ) → 0 < n → 0 < 2 ^ n - 1
        more n l = let m = pow-lt {i = 0} {j = n} l in omega (arith, m)

    pub order_named : (by : ℕ → Drivers) → AreMakers p probed sample known (all_of sample) by → AreNamed by shows.places (sightings p pins g h)
    order_named by makers =
        named (all_of sample) refl by makers shows.places (sightings p pins g h) walk.steps (subst (λ s. reaching_at makers.reaching s ≡ true) (sym whole) makers.at_goal)
