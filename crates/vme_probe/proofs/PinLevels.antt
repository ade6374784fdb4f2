-- What was said of the probed pins is how they stand on every bus that shows it: `laws`.
use Rattle.std.proofs.Common.{◌≡◌, ◌∙◌, ◌++◌, ◌∷◌, [], ℕ, zero, suc, Bool, true, false, List, Option, Some, None, refl, sym, ap, subst, arith, is_some}
use Rattle.std.specs.Prelude.{◌==◌, ◌&&◌, ◌||◌, if◌then◌else◌, find, is_none, option_map}
use Rattle.std.specs.List.{list_any}
use Rattle.std.specs.Option.{option_and_then}
use Rattle.std.proofs.lemmas.Bool.Decides.{nat_tests}
use Rattle.vme_model.specs.declared.sets.ChainId.{ChainId}
use Rattle.vme_model.specs.declared.sets.ChainId.TheVariants as chain
use Rattle.vme_model.specs.declared.signals.Driver.TheVariants.{Controller, Slot}
use Rattle.vme_model.specs.declared.signals.Edge.{Edge}
use Rattle.vme_model.specs.declared.signals.Version.{Version}
use Rattle.vme_model.specs.Accepted.{IsAccepted}
use Rattle.vme_model.specs.History.{segment}
use Rattle.vme_model.specs.Plan.{Plan, board_of, head_wire, out_wire}
use Rattle.vme_model.proofs.Bools.{and_left, and_right}
use Rattle.vme_captures.specs.declared.signals.Change.{Change}
use Rattle.vme_captures.specs.declared.signals.Entry.{Entry}
use Rattle.vme_captures.specs.declared.signals.Entry.TheVariants as entry
use Rattle.vme_captures.specs.declared.signals.Line.{Line}
use Rattle.vme_captures.specs.declared.signals.Pin.{Pin}
use Rattle.vme_captures.specs.declared.signals.Segment.{Segment}
use Rattle.vme_captures.specs.declared.signals.Side.{Side}
use Rattle.vme_captures.specs.declared.signals.Side.TheVariants.{In, Out}
use Rattle.vme_captures.specs.declared.signals.Signal.{Signal}
use Rattle.vme_captures.specs.declared.signals.Signal.TheVariants as signal
use Rattle.vme_captures.specs.Changes.{agrees, are_values_of, differ, is_low, is_same_way, seen, segment_of, signal_on}
use Rattle.vme_captures.specs.Possible.{AgreeEach, Explains, is_among, sightings, with_sighting}
use Rattle.vme_captures.specs.Reading.{capture_of, changes, is_left_low, is_running, last_moment, lows, pins}
use Rattle.vme_captures.specs.Signals.{is_same_chain, is_same_pin, is_same_side, is_same_signal}
use Rattle.vme_captures.specs.Wires.{is_on, pin_on, wire_of}
use Rattle.vme_captures.proofs.Same.{signal_same}
use Rattle.vme_standings.specs.Covers.{is_probed, is_segment_low, segment_at}
use Rattle.vme_standings.proofs.JoinedLevels.{drive_grows, drive_shrinks, drive_stays, turned}
use Rattle.vme_standings.proofs.JoinedSegments.{moved_is, no_line, place_of_pin, segments_stay, wire_at}
use Rattle.vme_standings.proofs.SeenEdges.{signal_is}
use Rattle.vme_standings.proofs.SeenLines.{differs, way}
use Rattle.vme_standings.proofs.Tests.{both, never, or_left, or_true}
use Rattle.vme_probe.proofs.Said.{AllSaid, said_stands}
use Rattle.vme_probe.proofs.Tied.{low_at, no_changes}

-- ---- tests

pub pin_self : (q : Pin) → is_same_pin q q ≡ true
pin_self q =
    both (q.slot == q.slot && is_same_chain q.chain q.chain) (is_same_side q.side q.side)
    (both (q.slot == q.slot) (is_same_chain q.chain q.chain) (self q.slot) (self_chain q.chain)) (self_side q.side)
  where
    self : (n : ℕ) → (n == n) ≡ true
    self n = grind (arith, nat_tests)

    self_chain : (c : ChainId) → is_same_chain c c ≡ true
    self_chain chain.Bg0 = refl
    self_chain chain.Bg1 = refl
    self_chain chain.Bg2 = refl
    self_chain chain.Bg3 = refl
    self_chain chain.Iack = refl

    self_side : (x : Side) → is_same_side x x ≡ true
    self_side In = refl
    self_side Out = refl

same_way : (a b : Bool) → is_same_way a b ≡ true → a ≡ b
same_way true true e = refl
same_way false false e = refl
same_way true false e = absurd (cc)
same_way false true e = absurd (cc)

-- ---- one edge

-- the level of a signal behind what is seen of an edge
abbrev behind_edge : Option Change → Signal → Bool → Bool
behind_edge None x low = low
behind_edge (Some v) x low = if is_same_signal v.signal x then v.fall else low

-- the pin that is found on a wire that an edge moves is the one that is seen
seen_pin : (p : Plan) (pins : List Pin) (h : List Edge) (e : Edge) (v : Change) → seen p pins h e ≡ Some v → (g : Segment) (q : Pin)
    → segment_of e.wire (board_of p e.driver) ≡ Some g → pin_on p pins g ≡ Some q → v.signal ≡ signal.Pin q
seen_pin p pins h e v s g q moves found =
    same v.signal (signal.Pin q)
    (sym (signal_is p pins h e v s)
    ∙ ap (λ (l : Option Line). signal_on p pins l (segment_of e.wire (board_of p e.driver))) (no_line e.wire (board_of p e.driver) g moves)
    ∙ ap (λ (o : Option Segment). option_map (λ x. signal.Pin x) (option_and_then (pin_on p pins) o)) moves
    ∙ ap (λ (o : Option Pin). option_map (λ x. signal.Pin x) o) found)
  where
    same : (a b : Signal) → Some a ≡ Some b → a ≡ b
    same a b x = cc

-- the level of a pin behind changes, the newest first
abbrev pub behind_changes : Pin → List Change → Bool → Bool
behind_changes q [] low = low
behind_changes q (c ∷ cs) low = if is_same_signal c.signal (signal.Pin q) then c.fall else behind_changes q cs low

module _ (p : Plan) (ok : IsAccepted p) (pins : List Pin) (q : Pin) (found : pin_on p pins (wire_of p q) ≡ Some q) where
  abbrev chain_of : ChainId
  chain_of = q.chain

  abbrev place : ℕ
  place = place_of_pin p ok q

  there : wire_of p q ≡ segment_at chain_of place
  there = wire_at p ok q

  probed : is_probed p pins chain_of place ≡ true
  probed = subst (λ g. is_some (pin_on p pins g) ≡ true) there (ap (λ (o : Option Pin). is_some o) found)

  low_is : (h : List Edge) → is_low p h (signal.Pin q) ≡ is_segment_low h chain_of place
  low_is h = ap (λ (g : Segment). segment h g.chain g.place) there

  module _ (h : List Edge) (e : Edge) where
    -- an edge of another wire leaves the level
    stays : (c : ChainId) (t : ℕ) → is_probed p pins c t ≡ true → (segment_of e.wire (board_of p e.driver) ≡ Some (segment_at c t) → ⊥) → is_segment_low (e ∷ h) c t ≡ is_segment_low h c t
    stays c zero on nay = drive_stays h e Controller (head_wire c) (λ is. nay (moved_is p ok pins e c zero on is))
    stays c (suc t) on nay = drive_stays h e (Slot (suc t)) (out_wire c) (λ is. nay (moved_is p ok pins e c (suc t) on is))

    turns : (c : ChainId) (t : ℕ) → differ (is_segment_low h c t) (is_segment_low (e ∷ h) c t) ≡ true → is_segment_low (e ∷ h) c t ≡ e.fall
    turns c zero d =
        turned e.fall (is_segment_low h c zero) (is_segment_low (e ∷ h) c zero)
        (drive_grows h e Controller (head_wire c)) (drive_shrinks h e Controller (head_wire c)) d
    turns c (suc t) d =
        turned e.fall (is_segment_low h c (suc t)) (is_segment_low (e ∷ h) c (suc t))
        (drive_grows h e (Slot (suc t)) (out_wire c)) (drive_shrinks h e (Slot (suc t)) (out_wire c)) d

    unseen_leaves : seen p pins h e ≡ None → is_low p (e ∷ h) (signal.Pin q) ≡ is_low p h (signal.Pin q)
    unseen_leaves none =
        low_is (e ∷ h)
        ∙ bare (is_probed p pins chain_of place) (is_segment_low (e ∷ h) chain_of place) (is_segment_low h chain_of place) probed (segments_stay p ok pins h e none chain_of place)
        ∙ sym (low_is h)
      where
        bare : (a b c : Bool) → a ≡ true → (a && b) ≡ (a && c) → b ≡ c
        bare true b c on is = is
        bare false b c on is = absurd (cc)

    module _ (v : Change) (s : seen p pins h e ≡ Some v) where
      -- of the pin
      pub seen_turns : v.signal ≡ signal.Pin q → is_low p (e ∷ h) (signal.Pin q) ≡ v.fall
      seen_turns is =
          low_is (e ∷ h)
          ∙ turns chain_of place (subst (λ (g : Segment). differ (segment h g.chain g.place) (segment (e ∷ h) g.chain g.place) ≡ true) there (differs p ok pins h e v s (signal.Pin q) is))
          ∙ way p ok pins h e v s v.fall refl

      -- of something else
      seen_leaves : (v.signal ≡ signal.Pin q → ⊥) → is_low p (e ∷ h) (signal.Pin q) ≡ is_low p h (signal.Pin q)
      seen_leaves other =
          low_is (e ∷ h)
          ∙ stays chain_of place probed (λ m. other (seen_pin p pins h e v s (wire_of p q) q (m ∙ ap (λ g. Some g) (sym there)) found))
          ∙ sym (low_is h)

      by_signal : (b : Bool) → is_same_signal v.signal (signal.Pin q) ≡ b → is_low p (e ∷ h) (signal.Pin q) ≡ (if b then v.fall else is_low p h (signal.Pin q))
      by_signal true same = seen_turns (signal_same v.signal (signal.Pin q) same)
      by_signal false differs = seen_leaves (λ is. never (is_same_signal v.signal (signal.Pin q)) (subst (λ x. is_same_signal x (signal.Pin q) ≡ true) (sym is) (pin_self q)) differs)

    one_edge : (o : Option Change) → seen p pins h e ≡ o → is_low p (e ∷ h) (signal.Pin q) ≡ behind_edge o (signal.Pin q) (is_low p h (signal.Pin q))
    one_edge None none = unseen_leaves none
    one_edge (Some v) some = by_signal v some (is_same_signal v.signal (signal.Pin q)) refl

  -- ---- all edges

  pub shown_level : (g h : List Edge) (cs : List Change) → AgreeEach cs (sightings p pins g h) → behind_changes q cs (is_low p g (signal.Pin q)) ≡ is_low p (h ++ g) (signal.Pin q)
  shown_level g [] [] agree = refl
  shown_level g [] (c ∷ cs) agree = absurd agree
  shown_level g (e ∷ h) cs agree =
      by_sight (seen p pins (h ++ g) e) (one_edge (h ++ g) e (seen p pins (h ++ g) e) refl) cs agree (shown_level g h)
    where
      same_change : (c v : Change) (a b : Bool) → agrees c v ≡ true → a ≡ b
          → (if is_same_signal c.signal (signal.Pin q) then c.fall else a) ≡ (if is_same_signal v.signal (signal.Pin q) then v.fall else b)
      same_change c v a b agree same =
          let first = and_left (is_same_signal c.signal v.signal && is_same_way c.fall v.fall) (are_values_of c.value v.value) agree in
          let signal_same = signal_same c.signal v.signal (and_left (is_same_signal c.signal v.signal) (is_same_way c.fall v.fall) first) in
          let fall_same = same_way c.fall v.fall (and_right (is_same_signal c.signal v.signal) (is_same_way c.fall v.fall) first) in
          ap (λ x. if is_same_signal x (signal.Pin q) then c.fall else a) signal_same
          ∙ ap (λ f. if is_same_signal v.signal (signal.Pin q) then f else a) fall_same
          ∙ ap (λ y. if is_same_signal v.signal (signal.Pin q) then v.fall else y) same

      by_sight : (o : Option Change) → is_low p (e ∷ (h ++ g)) (signal.Pin q) ≡ behind_edge o (signal.Pin q) (is_low p (h ++ g) (signal.Pin q)) → (cs : List Change)
          → AgreeEach cs (with_sighting e.driver o (sightings p pins g h))
          → ((ks : List Change) → AgreeEach ks (sightings p pins g h) → behind_changes q ks (is_low p g (signal.Pin q)) ≡ is_low p (h ++ g) (signal.Pin q))
          → behind_changes q cs (is_low p g (signal.Pin q)) ≡ is_low p (e ∷ (h ++ g)) (signal.Pin q)
      by_sight None is cs agree earlier = earlier cs agree ∙ sym is
      by_sight (Some v) is [] agree earlier = absurd agree
      by_sight (Some v) is (c ∷ cs) agree earlier =
          same_change c v (behind_changes q cs (is_low p g (signal.Pin q))) (is_low p (h ++ g) (signal.Pin q)) agree.0 (earlier cs agree.1) ∙ sym is

-- ---- what was said

-- the changes stand behind what is low at the beginning
pub said_level : (p : Plan) (q : Pin) (said : List Entry) → AllSaid p said → is_left_low said (signal.Pin q) ≡ behind_changes q (changes said) (is_among (lows said) (signal.Pin q))
said_level p q [] all = refl
said_level p q (entry.Pin x ∷ said) all = said_level p q said all.1
said_level p q (entry.Running ∷ said) all = said_level p q said all.1
said_level p q (entry.Moment m ∷ said) all = said_level p q said all.1
said_level p q (entry.Change c ∷ said) all = ap (λ b. if is_same_signal c.signal (signal.Pin q) then c.fall else b) (said_level p q said all.1)
said_level p q (entry.Low y ∷ said) all =
    low_at p (entry.Low y ∷ said) all head (signal.Pin q)
    ∙ sym (ap (λ (cs : List Change). behind_changes q cs (is_among (lows (entry.Low y ∷ said)) (signal.Pin q))) (no_changes p (entry.Low y ∷ said) all head))
  where
    is_head : (a : Bool) (o : Option ℕ) → (a && is_none o) ≡ true → o ≡ None
    is_head a None h = refl
    is_head true (Some m) h = absurd (cc)
    is_head false (Some m) h = absurd (cc)

    head : last_moment (entry.Low y ∷ said) ≡ None
    head = is_head (is_running said) (last_moment said) (said_stands p said (entry.Low y) all.0)

-- a pin that is found is one of them
pub found_there : (test : Pin → Bool) (pins : List Pin) (q : Pin) → find test pins ≡ Some q → list_any (is_same_pin q) pins ≡ true
found_there test [] q is = absurd (cc)
found_there test (x ∷ pins) q is = by_test (test x) is (found_there test pins q)
  where
    same : Some x ≡ Some q → x ≡ q
    same e = cc

    by_test : (b : Bool) → (if b then Some x else find test pins) ≡ Some q
        → (find test pins ≡ Some q → list_any (is_same_pin q) pins ≡ true) → (is_same_pin q x || list_any (is_same_pin q) pins) ≡ true
    by_test true e next = or_left (is_same_pin q x) (list_any (is_same_pin q) pins) (subst (λ y. is_same_pin q y ≡ true) (sym (same e)) (pin_self q))
    by_test false e next = or_true (is_same_pin q x) (list_any (is_same_pin q) pins) (next e)

-- so the level that was said last is that of the bus
pub pin_level : (p : Plan) → IsAccepted p → (version : Version) (said : List Entry) → AllSaid p said → (g h : List Edge) → Explains p (capture_of version said) g h
    → (q : Pin) → pin_on p (pins said) (wire_of p q) ≡ Some q → is_left_low said (signal.Pin q) ≡ is_low p (h ++ g) (signal.Pin q)
pin_level p ok version said all g h x q found =
    said_level p q said all
    ∙ ap (λ b. behind_changes q (changes said) b) (sym (x.begins.levels (signal.Pin q) (found_there (is_on p (wire_of p q)) (pins said) q found)))
    ∙ shown_level p ok (pins said) q found g h (changes said) x.shows
