-- A probed pin that an edge moves next has such a change among those that may come: `laws`.
use Rattle.std.proofs.Common.{◌≡◌, ◌∙◌, ◌<◌, ◌≤◌, ◌++◌, ◌∷◌, [], ℕ, zero, suc, Bool, true, false, List, Option, Some, None, refl, sym, ap, subst, arith, not}
use Rattle.std.specs.Prelude.{◌==◌, ◌&&◌, nat_lt, option_map}
use Rattle.std.specs.List.{Contains}
use Rattle.std.specs.Option.{option_and_then}
use Rattle.std.proofs.lemmas.Bool.Decides.{nat_tests}
use Rattle.std.proofs.lemmas.List.Elements.{Contains-append_left, Contains-append_right, Contains-push}
use Rattle.vme_model.specs.declared.sets.ChainId.{ChainId}
use Rattle.vme_model.specs.declared.sets.ChainId.TheVariants.{Bg0, Bg1, Bg2, Bg3, Iack}
use Rattle.vme_model.specs.declared.signals.Edge.{Edge}
use Rattle.vme_model.specs.declared.signals.Wire.{Wire}
use Rattle.vme_model.specs.declared.signals.Wire.TheVariants as wire
use Rattle.vme_model.specs.declared.boards.Row.{Row}
use Rattle.vme_model.specs.Accepted.{IsAccepted}
use Rattle.vme_model.specs.Plan.{Plan, board_of}
use Rattle.vme_captures.specs.declared.reader.Probe.{Probe}
use Rattle.vme_captures.specs.declared.signals.Change.{Change}
use Rattle.vme_captures.specs.declared.signals.Entry.{Entry}
use Rattle.vme_captures.specs.declared.signals.Line.{Line}
use Rattle.vme_captures.specs.declared.signals.Pin.{Pin}
use Rattle.vme_captures.specs.declared.signals.Segment.{Segment}
use Rattle.vme_captures.specs.declared.signals.Signal.TheVariants as signal
use Rattle.vme_captures.specs.declared.signals.Value.{Value}
use Rattle.vme_captures.specs.Changes.{agrees, are_values_of, is_low, is_same_way, seen, segment_of, signal_on, value_at}
use Rattle.vme_captures.specs.Feeding.{probe_of, probes_of}
use Rattle.vme_captures.specs.Reading.{is_left_low, pins}
use Rattle.vme_captures.specs.Signals.{is_same_signal}
use Rattle.vme_captures.specs.Wires.{pin_on, wire_of}
use Rattle.vme_standings.specs.declared.standings.Standings.{Standings}
use Rattle.vme_standings.specs.Covers.{segment_at}
use Rattle.vme_standings.proofs.JoinedAnswers.{seen_value}
use Rattle.vme_standings.proofs.JoinedSegments.{no_line, place_of_pin, wire_at}
use Rattle.vme_standings.proofs.SeenEdges.{segment_is, signal_is}
use Rattle.vme_standings.proofs.SeenLines.{differs}
use Rattle.vme_standings.proofs.Tests.{both}
use Rattle.vme_probe.specs.Ends.{next_changes, next_lines, next_of_probe, next_pins, pins_below}
use Rattle.vme_probe.specs.Pins.{probe_at, segment_at as segment_of_slot}
use Rattle.vme_probe.proofs.NextLines.{IsAmong, turns, way_self}
use Rattle.vme_probe.proofs.PinLevels.{pin_self, seen_turns}
use Rattle.vme_probe.proofs.Tied.{no_pin_beyond, one_segment, probe_found}

-- ---- the lists

-- the change of a probe
abbrev of_probe : Probe → Change
of_probe r = record { signal = signal.Pin r.pin; fall = not r.low; value = None }

-- the last of them
abbrev last_below : List Probe → ChainId → ℕ → List Change
last_below probes c k = next_of_probe (probe_at probes (segment_of_slot c k))

below_has : (probes : List Probe) (c : ChainId) (s k : ℕ) (r : Probe) → s < k → probe_at probes (segment_of_slot c s) ≡ Some r → Contains (pins_below probes c k) (of_probe r)
below_has probes c s zero r less found = absurd (omega arith)
below_has probes c s (suc k) r less found = by_test (s == k) refl (λ under. below_has probes c s k r under found)
  where
    same : (s == k) ≡ true → s ≡ k
    same is = grind (arith, nat_tests)

    below : (s == k) ≡ false → s < k
    below is = grind (arith, nat_tests)

    by_test : (b : Bool) → (s == k) ≡ b → (s < k → Contains (pins_below probes c k) (of_probe r)) → Contains (pins_below probes c k ++ last_below probes c k) (of_probe r)
    by_test true is earlier =
        Contains-append_right (pins_below probes c k) (last_below probes c k) (of_probe r)
        (subst (λ o. Contains (next_of_probe o) (of_probe r)) (sym found ∙ ap (λ t. probe_at probes (segment_of_slot c t)) (same is)) (Contains-push [] (of_probe r)))
    by_test false is earlier = Contains-append_left (pins_below probes c k) (last_below probes c k) (of_probe r) (earlier (below is))

module _ (st : Standings) (probes : List Probe) where
  abbrev with_0 : List Change
  with_0 = next_lines st ++ next_pins probes Bg0

  abbrev with_1 : List Change
  with_1 = with_0 ++ next_pins probes Bg1

  abbrev with_2 : List Change
  with_2 = with_1 ++ next_pins probes Bg2

  abbrev with_3 : List Change
  with_3 = with_2 ++ next_pins probes Bg3

  from_2 : (c : Change) → Contains with_2 c → Contains (next_changes st probes) c
  from_2 c on = Contains-append_left with_3 (next_pins probes Iack) c (Contains-append_left with_2 (next_pins probes Bg3) c on)

  from_0 : (c : Change) → Contains with_0 c → Contains (next_changes st probes) c
  from_0 c on = from_2 c (Contains-append_left with_1 (next_pins probes Bg2) c (Contains-append_left with_0 (next_pins probes Bg1) c on))

  pub line_there : (c : Change) → Contains (next_lines st) c → Contains (next_changes st probes) c
  line_there c on = from_0 c (Contains-append_left (next_lines st) (next_pins probes Bg0) c on)

  chain_there : (k : ChainId) (c : Change) → Contains (next_pins probes k) c → Contains (next_changes st probes) c
  chain_there Bg0 c on = from_0 c (Contains-append_right (next_lines st) (next_pins probes Bg0) c on)
  chain_there Bg1 c on = from_2 c (Contains-append_left with_1 (next_pins probes Bg2) c (Contains-append_right with_0 (next_pins probes Bg1) c on))
  chain_there Bg2 c on = from_2 c (Contains-append_right with_1 (next_pins probes Bg2) c on)
  chain_there Bg3 c on = Contains-append_left with_3 (next_pins probes Iack) c (Contains-append_right with_2 (next_pins probes Bg3) c on)
  chain_there Iack c on = Contains-append_right with_3 (next_pins probes Iack) c on

-- ---- the change that is seen

-- nothing is seen with an edge of a segment
no_value : (p : Plan) (h : List Edge) (e : Edge) (w : Wire) (r : Option Row) (g : Segment) (f : Bool) → segment_of w r ≡ Some g → value_at p h e w f ≡ None
no_value p h e wire.AddressStrobe r g f is = absurd (cc)
no_value p h e wire.Dtack r g f is = absurd (cc)
no_value p h e w r g f is = refl

-- what was said of the pins is how they stand
abbrev pub ArePinsAsSaid : Plan → List Entry → List Edge → Type 0
ArePinsAsSaid p said h = (q : Pin) → pin_on p (pins said) (wire_of p q) ≡ Some q → is_left_low said (signal.Pin q) ≡ is_low p h (signal.Pin q)

module _ (p : Plan) (ok : IsAccepted p) (said : List Entry) (h : List Edge) (levels : ArePinsAsSaid p said h) (e : Edge) (v : Change) (s : seen p (pins said) h e ≡ Some v) (q : Pin)
    (is : v.signal ≡ signal.Pin q) where
  moves : segment_of e.wire (board_of p e.driver) ≡ Some (wire_of p q)
  moves = segment_is p (pins said) h e v s q is

  -- the pin is the first on its wire
  found : pin_on p (pins said) (wire_of p q) ≡ Some q
  found =
      of_pin (pin_on p (pins said) (wire_of p q))
      (sym (ap (λ (o : Option Segment). option_map (λ y. signal.Pin y) (option_and_then (pin_on p (pins said)) o)) moves)
      ∙ sym (ap (λ (l : Option Line). signal_on p (pins said) l (segment_of e.wire (board_of p e.driver))) (no_line e.wire (board_of p e.driver) (wire_of p q) moves))
      ∙ signal_is p (pins said) h e v s ∙ ap (λ y. Some y) is)
    where
      of_pin : (o : Option Pin) → option_map (λ y. signal.Pin y) o ≡ Some (signal.Pin q) → o ≡ Some q
      of_pin None y = absurd (cc)
      of_pin (Some a) y = let same : a ≡ q = cc in ap (λ z. Some z) same

  abbrev place : ℕ
  place = place_of_pin p ok q

  found_at : pin_on p (pins said) (segment_at q.chain place) ≡ Some q
  found_at = subst (λ y. pin_on p (pins said) y ≡ Some q) (wire_at p ok q) found

  near : place < 22
  near = by_test (nat_lt place 22) refl
    where
      clash : None ≡ Some q → ⊥
      clash y = cc

      by_test : (b : Bool) → nat_lt place 22 ≡ b → place < 22
      by_test true less = grind (arith, nat_tests)
      by_test false far =
          let more : 22 ≤ place = grind (arith, nat_tests) in
          absurd (clash (sym (no_pin_beyond p ok (pins said) q.chain place more) ∙ found_at))

  probed : probe_at (probes_of p said) (segment_of_slot q.chain place) ≡ Some (probe_of p said q)
  probed =
      ap (λ y. probe_at (probes_of p said) y) (one_segment q.chain place)
      ∙ probe_found p said (segment_at q.chain place) (pins said)
      ∙ ap (λ (o : Option Pin). option_map (probe_of p said) o) found_at

  other_level : v.fall ≡ not (is_left_low said (signal.Pin q))
  other_level =
      turns (is_low p h (signal.Pin q)) (is_low p (e ∷ h) (signal.Pin q)) v.fall
      (differs p ok (pins said) h e v s (signal.Pin q) is) (seen_turns p ok (pins said) q found h e v s is)
      ∙ ap (λ b. not b) (sym (levels q found))

  agreed : agrees (of_probe (probe_of p said q)) v ≡ true
  agreed =
      both (is_same_signal (signal.Pin q) v.signal && is_same_way (not (is_left_low said (signal.Pin q))) v.fall) (are_values_of None v.value)
      (both (is_same_signal (signal.Pin q) v.signal) (is_same_way (not (is_left_low said (signal.Pin q))) v.fall)
      (subst (λ y. is_same_signal (signal.Pin q) y ≡ true) (sym is) (pin_self q))
      (subst (λ b. is_same_way (not (is_left_low said (signal.Pin q))) b ≡ true) (sym other_level) (way_self (not (is_left_low said (signal.Pin q))))))
      (subst (λ (o : Option Value). are_values_of None o ≡ true) (sym (seen_value p (pins said) h e v s ∙ no_value p h e e.wire (board_of p e.driver) (wire_of p q) e.fall moves)) refl)

  pub pin_next : (st : Standings) → IsAmong (next_changes st (probes_of p said)) v
  unfolding next_pins
  pin_next st = record {
    change = of_probe (probe_of p said q);
    there = chain_there st (probes_of p said) q.chain (of_probe (probe_of p said q)) (below_has (probes_of p said) q.chain place 22 (probe_of p said q) near probed);
    agrees = agreed;
  }
