-- A shared line that an edge moves next has such a change among those that may come: `laws`.
use Rattle.std.proofs.Common.{◌≡◌, ◌∙◌, ◌<◌, ◌+◌, ◌++◌, ◌∷◌, [], ℕ, zero, suc, Bool, true, false, List, Option, Some, None, refl, sym, ap, subst, arith, not}
use Rattle.std.specs.Prelude.{◌==◌, ◌&&◌, if◌then◌else◌, option_map}
use Rattle.std.specs.List.{Contains}
use Rattle.std.specs.Option.{IfSome}
use Rattle.std.proofs.lemmas.Bool.Decides.{nat_tests}
use Rattle.std.proofs.lemmas.List.Elements.{Contains-append_left, Contains-append_right, Contains-push}
use Rattle.vme_model.specs.declared.boards.Row.{Row}
use Rattle.vme_model.specs.declared.boards.InterrupterRow.{InterrupterRow}
use Rattle.vme_model.specs.declared.boards.RequesterRow.{RequesterRow}
use Rattle.vme_model.specs.declared.deliveries.Delivery.{Delivery}
use Rattle.vme_model.specs.declared.signals.Cycle.{Cycle}
use Rattle.vme_model.specs.declared.signals.Cycle.TheVariants as cycle
use Rattle.vme_model.specs.declared.signals.Driver.{Driver}
use Rattle.vme_model.specs.declared.signals.Driver.TheVariants.{Controller, Slot}
use Rattle.vme_model.specs.declared.signals.Edge.{Edge}
use Rattle.vme_model.specs.declared.signals.Version.{Version}
use Rattle.vme_model.specs.declared.signals.Wire.{Wire}
use Rattle.vme_model.specs.declared.signals.Wire.TheVariants as wire
use Rattle.vme_model.specs.Accepted.{IsAccepted}
use Rattle.vme_model.specs.Deliveries.{delivery}
use Rattle.vme_model.specs.History.{drive, line}
use Rattle.vme_model.specs.Plan.{Plan, board, board_of}
use Rattle.vme_model.specs.Signals.{is_in_range, is_level}
use Rattle.vme_model.specs.Verdict.{IsLegal}
use Rattle.vme_model.proofs.Bools.{and_left}
use Rattle.vme_model.proofs.Members.{found_row}
use Rattle.vme_model.proofs.Ranges.{IsRowInRange, in_range}
use Rattle.vme_captures.specs.declared.signals.Change.{Change}
use Rattle.vme_captures.specs.declared.signals.Line.{Line}
use Rattle.vme_captures.specs.declared.signals.Line.TheVariants as on_line
use Rattle.vme_captures.specs.declared.signals.Pin.{Pin}
use Rattle.vme_captures.specs.declared.signals.Signal.{Signal}
use Rattle.vme_captures.specs.declared.signals.Signal.TheVariants as signal
use Rattle.vme_captures.specs.declared.signals.Value.{Value}
use Rattle.vme_captures.specs.declared.signals.Value.TheVariants as value
use Rattle.vme_captures.specs.Changes.{agrees, are_values_of, differ, is_line_low, is_same_way, line_of, seen, value_at}
use Rattle.vme_captures.specs.Levels.{is_line_left_low}
use Rattle.vme_captures.specs.Signals.{is_line, is_same_line, is_same_signal}
use Rattle.vme_standings.specs.declared.standings.Standings.{Standings}
use Rattle.vme_standings.specs.Covers.{Covers}
use Rattle.vme_standings.specs.Requests.{IsBy}
use Rattle.vme_standings.proofs.JoinedAnswers.{seen_value}
use Rattle.vme_standings.proofs.JoinedLevels.{seen_turned}
use Rattle.vme_standings.proofs.JoinedShows.{Shows, shows_at}
use Rattle.vme_standings.proofs.RequestRows.{level_is, passed_as}
use Rattle.vme_standings.proofs.SeenEdges.{line_is}
use Rattle.vme_standings.proofs.SeenLines.{differs, way}
use Rattle.vme_standings.proofs.Tests.{both, never}
use Rattle.vme_standings.proofs.WhoDrives.{fall_by, fell}
use Rattle.vme_probe.specs.Ends.{next_acknowledges, next_brs, next_cycles, next_interrupts, next_irqs, next_lines, next_of, next_requests, next_strobes, strobe_fall}

-- one of these changes is one that says what is seen
pub record IsAmong (cs : List Change) (v : Change) : Type 0 where
  pub change : Change
  pub there : Contains cs change
  pub agrees : agrees change v ≡ true

self : (n : ℕ) → (n == n) ≡ true
self n = grind (arith, nat_tests)

line_self : (l : Line) → is_same_line l l ≡ true
line_self (on_line.Br n) = self n
line_self (on_line.Irq n) = self n
line_self on_line.Bbsy = refl
line_self on_line.AddressStrobe = refl
line_self on_line.DataStrobe = refl
line_self on_line.Dtack = refl
line_self on_line.Berr = refl
line_self on_line.Bclr = refl

pub way_self : (b : Bool) → is_same_way b b ≡ true
way_self true = refl
way_self false = refl

-- ---- the lists

brs_have : (st : Standings) (n k : ℕ) → n < k → Contains (next_brs st k) (next_of st (on_line.Br n))
brs_have st n zero less = absurd (omega arith)
brs_have st n (suc k) less = by_test (n == k) refl (λ under. brs_have st n k under)
  where
    same : (n == k) ≡ true → n ≡ k
    same is = grind (arith, nat_tests)

    below : (n == k) ≡ false → n < k
    below is = grind (arith, nat_tests)

    by_test : (b : Bool) → (n == k) ≡ b → (n < k → Contains (next_brs st k) (next_of st (on_line.Br n))) → Contains (next_brs st k ++ next_of st (on_line.Br k) ∷ []) (next_of st (on_line.Br n))
    by_test true is earlier =
        subst (λ m. Contains (next_brs st k ++ next_of st (on_line.Br k) ∷ []) (next_of st (on_line.Br m))) (sym (same is))
        (Contains-push (next_brs st k) (next_of st (on_line.Br k)))
    by_test false is earlier =
        Contains-append_left (next_brs st k) (next_of st (on_line.Br k) ∷ []) (next_of st (on_line.Br n)) (earlier (below is))

irqs_have : (st : Standings) (n k : ℕ) → n < k → Contains (next_irqs st k) (next_of st (on_line.Irq (n + 1)))
irqs_have st n zero less = absurd (omega arith)
irqs_have st n (suc k) less = by_test (n == k) refl (λ under. irqs_have st n k under)
  where
    same : (n == k) ≡ true → n ≡ k
    same is = grind (arith, nat_tests)

    below : (n == k) ≡ false → n < k
    below is = grind (arith, nat_tests)

    by_test : (b : Bool) → (n == k) ≡ b → (n < k → Contains (next_irqs st k) (next_of st (on_line.Irq (n + 1))))
        → Contains (next_irqs st k ++ next_of st (on_line.Irq (k + 1)) ∷ []) (next_of st (on_line.Irq (n + 1)))
    by_test true is earlier =
        subst (λ m. Contains (next_irqs st k ++ next_of st (on_line.Irq (k + 1)) ∷ []) (next_of st (on_line.Irq (m + 1)))) (sym (same is))
        (Contains-push (next_irqs st k) (next_of st (on_line.Irq (k + 1))))
    by_test false is earlier =
        Contains-append_left (next_irqs st k) (next_of st (on_line.Irq (k + 1)) ∷ []) (next_of st (on_line.Irq (n + 1))) (earlier (below is))

-- the fall of AS* with an acknowledge
abbrev acknowledges : ℕ → Change
acknowledges n = strobe_fall (value.Shown (cycle.Acknowledge n))

acknowledges_have : (n k : ℕ) → n < k → Contains (next_acknowledges k) (acknowledges (n + 1))
acknowledges_have n zero less = absurd (omega arith)
acknowledges_have n (suc k) less = by_test (n == k) refl (λ under. acknowledges_have n k under)
  where
    same : (n == k) ≡ true → n ≡ k
    same is = grind (arith, nat_tests)

    below : (n == k) ≡ false → n < k
    below is = grind (arith, nat_tests)

    by_test : (b : Bool) → (n == k) ≡ b → (n < k → Contains (next_acknowledges k) (acknowledges (n + 1))) → Contains (next_acknowledges k ++ acknowledges (k + 1) ∷ []) (acknowledges (n + 1))
    by_test true is earlier =
        subst (λ m. Contains (next_acknowledges k ++ acknowledges (k + 1) ∷ []) (acknowledges (m + 1))) (sym (same is))
        (Contains-push (next_acknowledges k) (acknowledges (k + 1)))
    by_test false is earlier =
        Contains-append_left (next_acknowledges k) (acknowledges (k + 1) ∷ []) (acknowledges (n + 1)) (earlier (below is))

-- a level is one more than a number below 7
below_level : (n : ℕ) → is_level n ≡ true → (m : ℕ) × (m < 7) × (m + 1 ≡ n)
below_level zero is = absurd (cc)
below_level (suc m) is = (m, grind (arith, nat_tests), omega arith)

module _ (st : Standings) where
  abbrev requests : List Change
  requests = next_requests st

  abbrev interrupts : List Change
  interrupts = requests ++ next_interrupts st

  abbrev with_busy : List Change
  with_busy = interrupts ++ next_of st on_line.Bbsy ∷ []

  abbrev with_strobes : List Change
  with_strobes = with_busy ++ next_strobes st

  abbrev with_data : List Change
  with_data = with_strobes ++ next_of st on_line.DataStrobe ∷ []

  abbrev with_answer : List Change
  with_answer = with_data ++ next_of st on_line.Dtack ∷ []

  abbrev with_error : List Change
  with_error = with_answer ++ next_of st on_line.Berr ∷ []

  from_data : (c : Change) → Contains with_data c → Contains (next_lines st) c
  from_data c on =
      Contains-append_left with_error (next_of st on_line.Bclr ∷ []) c
      (Contains-append_left with_answer (next_of st on_line.Berr ∷ []) c
      (Contains-append_left with_data (next_of st on_line.Dtack ∷ []) c on))

  from_strobes : (c : Change) → Contains with_strobes c → Contains (next_lines st) c
  from_strobes c on = from_data c (Contains-append_left with_strobes (next_of st on_line.DataStrobe ∷ []) c on)

  from_busy : (c : Change) → Contains with_busy c → Contains (next_lines st) c
  from_busy c on = from_strobes c (Contains-append_left with_busy (next_strobes st) c on)

  from_interrupts : (c : Change) → Contains interrupts c → Contains (next_lines st) c
  from_interrupts c on = from_busy c (Contains-append_left interrupts (next_of st on_line.Bbsy ∷ []) c on)

  strobe_in : (c : Change) → Contains (next_strobes st) c → Contains (next_lines st) c
  strobe_in c on = from_strobes c (Contains-append_right with_busy (next_strobes st) c on)

  -- each line but AS*
  line_in : (l : Line) → is_line l ≡ true → is_same_line l on_line.AddressStrobe ≡ false → Contains (next_lines st) (next_of st l)
  unfolding next_requests next_interrupts
  line_in (on_line.Br n) is other =
      from_interrupts (next_of st (on_line.Br n)) (Contains-append_left requests (next_interrupts st) (next_of st (on_line.Br n)) (brs_have st n 4 (grind (arith, nat_tests))))
  line_in (on_line.Irq n) is other =
      let b = below_level n is in
      subst (λ m. Contains (next_lines st) (next_of st (on_line.Irq m))) b.2
      (from_interrupts (next_of st (on_line.Irq (b.0 + 1))) (Contains-append_right requests (next_interrupts st) (next_of st (on_line.Irq (b.0 + 1))) (irqs_have st b.0 7 b.1)))
  line_in on_line.Bbsy is other = from_busy (next_of st on_line.Bbsy) (Contains-push interrupts (next_of st on_line.Bbsy))
  line_in on_line.AddressStrobe is other = absurd (cc)
  line_in on_line.DataStrobe is other = from_data (next_of st on_line.DataStrobe) (Contains-push with_strobes (next_of st on_line.DataStrobe))
  line_in on_line.Dtack is other =
      let c = next_of st on_line.Dtack in
      Contains-append_left with_error (next_of st on_line.Bclr ∷ []) c
      (Contains-append_left with_answer (next_of st on_line.Berr ∷ []) c (Contains-push with_data c))
  line_in on_line.Berr is other =
      let c = next_of st on_line.Berr in
      Contains-append_left with_error (next_of st on_line.Bclr ∷ []) c (Contains-push with_answer c)
  line_in on_line.Bclr is other = Contains-push with_error (next_of st on_line.Bclr)

  -- AS* rises if it is low
  strobe_rise_in : is_line_left_low st.lines on_line.AddressStrobe ≡ true → Contains (next_lines st) (next_of st on_line.AddressStrobe)
  strobe_rise_in low = strobe_in (next_of st on_line.AddressStrobe) (by_level (is_line_left_low st.lines on_line.AddressStrobe) low)
    where
      by_level : (b : Bool) → b ≡ true → Contains (if b then next_of st on_line.AddressStrobe ∷ [] else next_cycles) (next_of st on_line.AddressStrobe)
      by_level true on = Contains-push [] (next_of st on_line.AddressStrobe)
      by_level false on = absurd (cc)

  -- and falls with each cycle if it is high
  cycle_in : is_line_left_low st.lines on_line.AddressStrobe ≡ false → (c : Change) → Contains next_cycles c → Contains (next_lines st) c
  cycle_in high c on = strobe_in c (by_level (is_line_left_low st.lines on_line.AddressStrobe) high)
    where
      by_level : (b : Bool) → b ≡ false → Contains (if b then next_of st on_line.AddressStrobe ∷ [] else next_cycles) c
      by_level true off = absurd (cc)
      by_level false off = on

-- ---- the change that is seen

-- what is seen with an edge may be left out, but for a fall of AS*
may_be_left : (p : Plan) (h : List Edge) (e : Edge) (w : Wire) (f : Bool) → (w ≡ wire.AddressStrobe → f ≡ true → ⊥) → are_values_of None (value_at p h e w f) ≡ true
may_be_left p h e wire.AddressStrobe true nay = absurd (nay refl refl)
may_be_left p h e wire.AddressStrobe false nay = refl
may_be_left p h e wire.Dtack true nay = by_delivery (delivery p h e)
  where
    by_delivery : (o : Option Delivery) → are_values_of None (option_map (λ d. value.Status d.status) o) ≡ true
    by_delivery None = refl
    by_delivery (Some d) = refl
may_be_left p h e wire.Dtack false nay = refl
may_be_left p h e w f nay = refl

pub turns : (a b f : Bool) → differ a b ≡ true → b ≡ f → f ≡ not a
turns true true f d is = absurd (cc)
turns true false f d is = sym is
turns false true f d is = sym is
turns false false f d is = absurd (cc)

module _ (version : Version) (p : Plan) (ok : IsAccepted p) (pins : List Pin) (h : List Edge) (e : Edge) (v : Change)
    (legal : IsLegal version p (e ∷ h)) (s : seen p pins h e ≡ Some v) (st : Standings) (covers : Covers p pins h st) where
  -- a change of this signal in this way, with what is left out or seen
  says_it : (x : Signal) (f : Bool) (val : Option Value) → is_same_signal x v.signal ≡ true → v.fall ≡ f → are_values_of val v.value ≡ true
      → agrees (record { signal = x; fall = f; value = val }) v ≡ true
  says_it x f val is fall vals =
      both (is_same_signal x v.signal && is_same_way f v.fall) (are_values_of val v.value)
      (both (is_same_signal x v.signal) (is_same_way f v.fall) is (subst (λ b. is_same_way f b ≡ true) (sym fall) (way_self f))) vals

  module _ (l : Line) (is : v.signal ≡ signal.Line l) where
    moves : line_of e.wire (board_of p e.driver) ≡ Some l
    moves = line_is p pins h e v s l is

    same_line : is_same_signal (signal.Line l) v.signal ≡ true
    same_line = subst (λ x. is_same_signal (signal.Line l) x ≡ true) (sym is) (line_self l)

    -- a line of the bus
    line_there : is_line l ≡ true
    line_there = by_driver e.driver e.wire moves
      where
        range : (t : ℕ) (r : Row) → board p t ≡ Some r → IfSome r.requester (λ q. q.level < 4)
        range t r found = (found_row (IsRowInRange p) p.rows t r (in_range p ok).rows found).fact.level

        same : (a b : Line) → Some a ≡ Some b → a ≡ b
        same a b x = cc

        by_requester : (o : Option RequesterRow) → IfSome o (λ q. q.level < 4) → option_map (λ q. on_line.Br q.level) o ≡ Some l → is_line l ≡ true
        by_requester None few x = absurd (cc)
        by_requester (Some q) few x = subst (λ k. is_line k ≡ true) (same (on_line.Br q.level) l x) (grind (arith, nat_tests))

        by_interrupter : (t : ℕ) (r : Row) → board p t ≡ Some r → (o : Option InterrupterRow) → r.interrupter ≡ o → option_map (λ i. on_line.Irq i.level) o ≡ Some l → is_line l ≡ true
        by_interrupter t r found None has x = absurd (cc)
        by_interrupter t r found (Some i) has x = subst (λ k. is_line k ≡ true) (same (on_line.Irq i.level) l x) (level_is p t r i ok found has)

        by_board : (t : ℕ) (o : Option Row) → board p t ≡ o → (w : Wire) → line_of w o ≡ Some l → is_line l ≡ true
        by_board t None found wire.Br x = absurd (cc)
        by_board t (Some r) found wire.Br x = by_requester r.requester (range t r found) x
        by_board t None found wire.Irq x = absurd (cc)
        by_board t (Some r) found wire.Irq x = by_interrupter t r found r.interrupter refl x
        by_board t o found wire.Bclr x = subst (λ k. is_line k ≡ true) (same on_line.Bclr l x) refl
        by_board t o found wire.Berr x = subst (λ k. is_line k ≡ true) (same on_line.Berr l x) refl
        by_board t o found wire.Bbsy x = subst (λ k. is_line k ≡ true) (same on_line.Bbsy l x) refl
        by_board t o found wire.AddressStrobe x = subst (λ k. is_line k ≡ true) (same on_line.AddressStrobe l x) refl
        by_board t o found wire.DataStrobe x = subst (λ k. is_line k ≡ true) (same on_line.DataStrobe l x) refl
        by_board t o found wire.Dtack x = subst (λ k. is_line k ≡ true) (same on_line.Dtack l x) refl
        by_board t o found w x = absurd (cc)

        by_none : (w : Wire) → line_of w None ≡ Some l → is_line l ≡ true
        by_none wire.Bclr x = subst (λ k. is_line k ≡ true) (same on_line.Bclr l x) refl
        by_none wire.Berr x = subst (λ k. is_line k ≡ true) (same on_line.Berr l x) refl
        by_none wire.Bbsy x = subst (λ k. is_line k ≡ true) (same on_line.Bbsy l x) refl
        by_none wire.AddressStrobe x = subst (λ k. is_line k ≡ true) (same on_line.AddressStrobe l x) refl
        by_none wire.DataStrobe x = subst (λ k. is_line k ≡ true) (same on_line.DataStrobe l x) refl
        by_none wire.Dtack x = subst (λ k. is_line k ≡ true) (same on_line.Dtack l x) refl
        by_none w x = absurd (cc)

        by_driver : (d : Driver) (w : Wire) → line_of w (board_of p d) ≡ Some l → is_line l ≡ true
        by_driver Controller w x = by_none w x
        by_driver (Slot t) w x = by_board t (board p t) refl w x

    -- it goes to the other level
    other_level : v.fall ≡ not (is_line_left_low st.lines l)
    other_level =
        turns (is_line_low p h l) (is_line_low p (e ∷ h) l) v.fall (differs p ok pins h e v s (signal.Line l) is) (seen_turned p ok h e pins v s l is)
        ∙ ap (λ b. not b) (sym (covers.levels.shared l line_there))

    agreed : are_values_of None v.value ≡ true → agrees (next_of st l) v ≡ true
    agreed vals = says_it (signal.Line l) (not (is_line_left_low st.lines l)) None same_line other_level vals

    -- nothing need be seen with it
    plain : (e.wire ≡ wire.AddressStrobe → e.fall ≡ true → ⊥) → are_values_of None v.value ≡ true
    plain nay = subst (λ o. are_values_of None o ≡ true) (sym (seen_value p pins h e v s)) (may_be_left p h e e.wire e.fall nay)

    but_strobe : is_same_line l on_line.AddressStrobe ≡ false → IsAmong (next_lines st) v
    but_strobe other = record {
      change = next_of st l;
      there = line_in st l line_there other;
      agrees = agreed (plain (λ w f. clash (sym (ap (λ x. line_of x (board_of p e.driver)) w) ∙ moves)));
    }
      where
        clash : Some on_line.AddressStrobe ≡ Some l → ⊥
        clash x = let same : on_line.AddressStrobe ≡ l = cc in never (is_same_line l on_line.AddressStrobe) (subst (λ k. is_same_line k on_line.AddressStrobe ≡ true) same refl) other

  -- AS* rises
  strobe_rises : v.signal ≡ signal.Line on_line.AddressStrobe → v.fall ≡ false → IsAmong (next_lines st) v
  strobe_rises is fall = record {
    change = next_of st on_line.AddressStrobe;
    there = strobe_rise_in st (was_low (is_line_left_low st.lines on_line.AddressStrobe) (sym fall ∙ other_level on_line.AddressStrobe is));
    agrees = agreed on_line.AddressStrobe is (plain on_line.AddressStrobe is (λ w f. never e.fall f (way p ok pins h e v s false fall)));
  }
    where
      was_low : (b : Bool) → false ≡ not b → b ≡ true
      was_low true x = refl
      was_low false x = absurd (cc)

  -- AS* falls
  module _ (is : v.signal ≡ signal.Line on_line.AddressStrobe) (fall : v.fall ≡ true) where
    levels : (line p h wire.AddressStrobe ≡ false) × (line p (e ∷ h) wire.AddressStrobe ≡ true)
    levels = fell version p ok h e legal wire.AddressStrobe (differs p ok pins h e v s (signal.Line on_line.AddressStrobe) is) (way p ok pins h e v s true fall)

    record Begins (t : ℕ) : Type 0 where
      of : e.wire ≡ wire.AddressStrobe
      address : drive h (Slot t) wire.Addr ≡ true

    begins : IsBy e Begins
    begins =
        fall_by version p ok h e legal wire.AddressStrobe Begins levels.0 levels.1
        (λ t driver w f. record {
          of = w;
          address = and_left (drive h (Slot t) wire.Addr) _ (passed_as version p h e t wire.AddressStrobe true legal driver w f).rule;
        })

    shows : Shows p h begins.slot
    shows = shows_at version p ok h legal.1 begins.slot begins.fact.address

    value_is : v.value ≡ Some (value.Shown shows.cycle)
    value_is =
        seen_value p pins h e v s
        ∙ ap (λ w. value_at p h e w e.fall) begins.fact.of
        ∙ ap (λ f. value_at p h e wire.AddressStrobe f) (way p ok pins h e v s true fall)
        ∙ ap (λ o. option_map (λ (c : Cycle). value.Shown c) o) shows.shows

    high : is_line_left_low st.lines on_line.AddressStrobe ≡ false
    high = covers.levels.shared on_line.AddressStrobe refl ∙ levels.0

    falls_with : (val : Value) → Contains next_cycles (strobe_fall val) → are_values_of (Some val) (Some (value.Shown shows.cycle)) ≡ true → IsAmong (next_lines st) v
    falls_with val on vals = record {
      change = strobe_fall val;
      there = cycle_in st high (strobe_fall val) on;
      agrees = says_it (signal.Line on_line.AddressStrobe) true (Some val) (same_line on_line.AddressStrobe is) fall (subst (λ o. are_values_of (Some val) o ≡ true) (sym value_is) vals);
    }

    strobe_falls : IsAmong (next_lines st) v
    unfolding next_cycles
    strobe_falls = by_cycle shows.cycle refl shows.range
      where
        by_cycle : (c : Cycle) → shows.cycle ≡ c → is_in_range c ≡ true → IsAmong (next_lines st) v
        by_cycle (cycle.Acknowledge n) at range =
            let b = below_level n range in
            falls_with (value.Shown (cycle.Acknowledge n))
            (subst (λ m. Contains next_cycles (acknowledges m)) b.2
            (Contains-append_left (next_acknowledges 7) (strobe_fall value.Access ∷ []) (acknowledges (b.0 + 1)) (acknowledges_have b.0 7 b.1)))
            (subst (λ c. are_values_of (Some (value.Shown (cycle.Acknowledge n))) (Some (value.Shown c)) ≡ true) (sym at) (self n))
        by_cycle (cycle.Access t) at range =
            falls_with value.Access
            (Contains-push (next_acknowledges 7) (strobe_fall value.Access))
            (subst (λ c. are_values_of (Some value.Access) (Some (value.Shown c)) ≡ true) (sym at) refl)

  -- so it is for each shared line
  pub line_next : (l : Line) → v.signal ≡ signal.Line l → IsAmong (next_lines st) v
  line_next l is = by_test (is_same_line l on_line.AddressStrobe) refl
    where
      by_fall : (f : Bool) → v.fall ≡ f → v.signal ≡ signal.Line on_line.AddressStrobe → IsAmong (next_lines st) v
      by_fall true fall at = strobe_falls at fall
      by_fall false fall at = strobe_rises at fall

      strobe : (k : Line) → is_same_line k on_line.AddressStrobe ≡ true → k ≡ on_line.AddressStrobe
      strobe on_line.AddressStrobe x = refl
      strobe k x = absurd (cc)

      by_test : (b : Bool) → is_same_line l on_line.AddressStrobe ≡ b → IsAmong (next_lines st) v
      by_test true same = by_fall v.fall refl (is ∙ ap (λ k. signal.Line k) (strobe l same))
      by_test false other = but_strobe l is other
