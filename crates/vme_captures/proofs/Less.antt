-- A capture that says less of what was seen stays possible: `laws`.
use Rattle.std.proofs.Common.{◌≡◌, ◌&&◌, ◌||◌, ◌++◌, Bool, true, false, cond, not, List, [], ◌∷◌, Option, Some, None, find, option_map, refl, sym, ◌∙◌, ap, inl, inr}
use Rattle.std.proofs.lemmas.Bool.{and_parts, cases_Bool}
use Rattle.std.proofs.lemmas.Map.Views.{any-filter_same}
use Rattle.std.specs.List.{filter, list_any}
use Rattle.std.specs.Option.{option_and_then}
use Rattle.vme_model.specs.declared.signals.Cycle.TheVariants as cycle
use Rattle.vme_model.specs.declared.signals.Driver.{Driver}
use Rattle.vme_model.specs.declared.signals.Edge.{Edge}
use Rattle.vme_model.specs.Plan.{Plan, board_of}
use Rattle.vme_captures.specs.declared.signals.Line.{Line}
use Rattle.vme_captures.specs.declared.signals.Pin.{Pin}
use Rattle.vme_captures.specs.declared.signals.Segment.{Segment}
use Rattle.vme_captures.specs.declared.signals.Signal.{Signal}
use Rattle.vme_captures.specs.declared.signals.Signal.TheVariants as signal
use Rattle.vme_captures.specs.declared.signals.Value.{Value}
use Rattle.vme_captures.specs.declared.signals.Value.TheVariants.{Shown, Access, Status}
use Rattle.vme_captures.specs.declared.signals.Change.{Change}
use Rattle.vme_captures.specs.Changes.{agrees, are_values_of, change_of, differ, is_low, is_same_way, line_of, seen, segment_of, signal_of, signal_on}
use Rattle.vme_captures.specs.Leaving.{has_own_wire, is_not_pin, value_without_byte, value_without_slot, without_byte, without_pin, without_slot}
use Rattle.vme_captures.specs.Possible.{AgreeEach, Capture, IsPossible, Sighting, is_among, is_probed, sightings, with_sighting}
use Rattle.vme_captures.specs.Signals.{is_same_pin, is_same_signal}
use Rattle.vme_captures.specs.Wires.{is_on, pin_on, wire_of}
use Rattle.vme_captures.proofs.Same.{false_true, pin_same, segment_same, signal_same}

-- ---- what was captured with a change, and less of it

byte_left : (x y : Option Value) → are_values_of x y ≡ true → are_values_of (value_without_byte x) y ≡ true
byte_left None y h = h
byte_left (Some (Shown u)) y h = h
byte_left (Some Access) y h = h
byte_left (Some (Status a)) None h = false_true h
byte_left (Some (Status a)) (Some (Shown v)) h = false_true h
byte_left (Some (Status a)) (Some Access) h = false_true h
byte_left (Some (Status a)) (Some (Status b)) h = refl

slot_left : (x y : Option Value) → are_values_of x y ≡ true → are_values_of (value_without_slot x) y ≡ true
slot_left None y h = h
slot_left (Some Access) y h = h
slot_left (Some (Status a)) y h = h
slot_left (Some (Shown (cycle.Acknowledge n))) y h = h
slot_left (Some (Shown (cycle.Access s))) None h = false_true h
slot_left (Some (Shown (cycle.Access s))) (Some (Shown (cycle.Access t))) h = refl
slot_left (Some (Shown (cycle.Access s))) (Some (Shown (cycle.Acknowledge n))) h = false_true h
slot_left (Some (Shown (cycle.Access s))) (Some Access) h = false_true h
slot_left (Some (Shown (cycle.Access s))) (Some (Status b)) h = false_true h

-- a change that says less is what was seen, if each value that it may have had is
agrees_too : (x : Option Value) (c v : Change) → (are_values_of c.value v.value ≡ true → are_values_of x v.value ≡ true)
    → agrees c v ≡ true → agrees (record c { value = x }) v ≡ true
agrees_too x c v f h =
    let k = and_parts (is_same_signal c.signal v.signal && is_same_way c.fall v.fall) (are_values_of c.value v.value) h in
    rw (k.0, f k.1) refl

byte_agrees : (c v : Change) → agrees c v ≡ true → agrees (without_byte c) v ≡ true
byte_agrees c v h = agrees_too (value_without_byte c.value) c v (byte_left c.value v.value) h

slot_agrees : (c v : Change) → agrees c v ≡ true → agrees (without_slot c) v ≡ true
slot_agrees c v h = agrees_too (value_without_slot c.value) c v (slot_left c.value v.value) h

-- one change says less
one_less : (w : Change → Change) → ((c v : Change) → agrees c v ≡ true → agrees (w c) v ≡ true)
    → (later earlier : List Change) (c : Change) (ss : List Sighting)
    → AgreeEach (later ++ c ∷ earlier) ss → AgreeEach (later ++ w c ∷ earlier) ss
one_less w f [] earlier c [] h = absurd h
one_less w f [] earlier c (s ∷ ss) h = (f c s.change h.0, h.1)
one_less w f (d ∷ later) earlier c [] h = absurd h
one_less w f (d ∷ later) earlier c (s ∷ ss) h = (h.0, one_less w f later earlier c ss h.1)

-- so the capture stays possible
less_is_possible : (w : Change → Change) → ((c v : Change) → agrees c v ≡ true → agrees (w c) v ≡ true)
    → (p : Plan) (c : Capture) (later earlier : List Change) (v : Change)
    → IsPossible p (record c { changes = later ++ v ∷ earlier }) → IsPossible p (record c { changes = later ++ w v ∷ earlier })
less_is_possible w f p c later earlier v h = record {
  before = h.before;
  edges = h.edges;
  explains = record {
    begins = record { power_up = h.explains.begins.power_up; legal = h.explains.begins.legal; levels = h.explains.begins.levels };
    legal = h.explains.legal;
    shows = one_less w f later earlier v (sightings p c.pins h.before h.edges) h.explains.shows;
  };
}

pub without_a_byte : (p : Plan) (c : Capture) (later earlier : List Change) (v : Change)
    → IsPossible p (record c { changes = later ++ v ∷ earlier }) → IsPossible p (record c { changes = later ++ without_byte v ∷ earlier })
without_a_byte = less_is_possible without_byte byte_agrees

pub without_a_slot : (p : Plan) (c : Capture) (later earlier : List Change) (v : Change)
    → IsPossible p (record c { changes = later ++ v ∷ earlier }) → IsPossible p (record c { changes = later ++ without_slot v ∷ earlier })
without_a_slot = less_is_possible without_slot slot_agrees

-- ---- a pin is left out

or_not : (a b : Bool) → (a || not b) ≡ true → a ≡ false → b ≡ false
or_not true b h k = false_true (sym k)
or_not false true h k = false_true h
or_not false false h k = refl

-- the pin, signal or change, if it is not of the pin
abbrev unless : Pin → Pin → Option Pin
unless q r = cond (not (is_same_pin q r)) (Some r) None

abbrev unless_signal : Pin → Signal → Option Signal
unless_signal q x = cond (is_not_pin q x) (Some x) None

abbrev unless_change : Pin → Change → Option Change
unless_change q v = cond (is_not_pin q v.signal) (Some v) None

abbrev other_pins : Pin → List Pin → List Pin
other_pins q pins = filter (λ r. not (is_same_pin q r)) pins

-- no pin is left on its wire
none_left : (p : Plan) (q : Pin) (pins : List Pin) → has_own_wire p pins q ≡ true → find (is_on p (wire_of p q)) (other_pins q pins) ≡ None
none_left p q [] h = refl
none_left p q (r ∷ rs) h =
    let k = and_parts (is_same_pin q r || not (is_on p (wire_of p q) r)) (has_own_wire p rs q) h in
    elim (cases_Bool (is_same_pin q r)) [
      | inl s ↦ rw s (none_left p q rs k.1)
      | inr s ↦ rw (s, or_not (is_same_pin q r) (is_on p (wire_of p q) r) k.0 s) (none_left p q rs k.1)
    ]

-- on any other wire the same pin is the first
pin_left : (p : Plan) (q : Pin) (g : Segment) (pins : List Pin) → has_own_wire p pins q ≡ true
    → pin_on p (other_pins q pins) g ≡ option_and_then (unless q) (pin_on p pins g)
pin_left p q g [] h = refl
pin_left p q g (r ∷ rs) h =
    let k = and_parts (is_same_pin q r || not (is_on p (wire_of p q) r)) (has_own_wire p rs q) h in
    elim (cases_Bool (is_on p g r)) [
      | inl o ↦ elim (cases_Bool (is_same_pin q r)) [
        | inl s ↦
            let e : wire_of p q ≡ g = ap (wire_of p) (pin_same q r s) ∙ segment_same (wire_of p r) g o in
            rw (o, s) (ap (λ w. find (is_on p w) (other_pins q rs)) (sym e) ∙ none_left p q rs k.1)
        | inr s ↦ rw (s, o, s) refl
      ]
      | inr o ↦ elim (cases_Bool (is_same_pin q r)) [
        | inl s ↦ rw (o, s) (pin_left p q g rs k.1)
        | inr s ↦ rw (s, o) (pin_left p q g rs k.1)
      ]
    ]

as_signal : (q : Pin) (o : Option Pin) → option_map (λ r. signal.Pin r) (option_and_then (unless q) o) ≡ option_and_then (unless_signal q) (option_map (λ r. signal.Pin r) o)
as_signal q None = refl
as_signal q (Some r) = elim (cases_Bool (is_same_pin q r)) [ inl s ↦ rw s refl | inr s ↦ rw s refl ]

signal_left : (p : Plan) (q : Pin) (pins : List Pin) → has_own_wire p pins q ≡ true → (l : Option Line) (g : Option Segment)
    → signal_on p (other_pins q pins) l g ≡ option_and_then (unless_signal q) (signal_on p pins l g)
signal_left p q pins h (Some l) g = refl
signal_left p q pins h None None = refl
signal_left p q pins h None (Some g) =
    ap (λ o. option_map (λ r. signal.Pin r) o) (pin_left p q g pins h) ∙ as_signal q (pin_on p pins g)

as_change : (p : Plan) (q : Pin) (h : List Edge) (e : Edge) (o : Option Signal)
    → option_and_then (change_of p h e) (option_and_then (unless_signal q) o) ≡ option_and_then (unless_change q) (option_and_then (change_of p h e) o)
as_change p q h e None = refl
as_change p q h e (Some x) =
    elim (cases_Bool (is_not_pin q x)) [
      | inl n ↦ elim (cases_Bool (differ (is_low p h x) (is_low p (e ∷ h) x))) [ inl d ↦ rw (n, d, n) refl | inr d ↦ rw (n, d) refl ]
      | inr n ↦ elim (cases_Bool (differ (is_low p h x) (is_low p (e ∷ h) x))) [ inl d ↦ rw (n, d, n) refl | inr d ↦ rw (n, d) refl ]
    ]

seen_left : (p : Plan) (q : Pin) (pins : List Pin) → has_own_wire p pins q ≡ true → (h : List Edge) (e : Edge)
    → seen p (other_pins q pins) h e ≡ option_and_then (unless_change q) (seen p pins h e)
seen_left p q pins own h e =
    ap (option_and_then (change_of p h e)) (signal_left p q pins own (line_of e.wire (board_of p e.driver)) (segment_of e.wire (board_of p e.driver)))
    ∙ as_change p q h e (signal_of p pins e)

-- the sightings but those of the pin
abbrev other_sightings : Pin → List Sighting → List Sighting
other_sightings q ss = filter (λ s. is_not_pin q s.change.signal) ss

as_sighting : (q : Pin) (d : Driver) (o : Option Change) (ss : List Sighting)
    → with_sighting d (option_and_then (unless_change q) o) (other_sightings q ss) ≡ other_sightings q (with_sighting d o ss)
as_sighting q d None ss = refl
as_sighting q d (Some v) ss = elim (cases_Bool (is_not_pin q v.signal)) [ inl n ↦ rw n refl | inr n ↦ rw n refl ]

sightings_left : (p : Plan) (q : Pin) (pins : List Pin) → has_own_wire p pins q ≡ true → (g h : List Edge)
    → sightings p (other_pins q pins) g h ≡ other_sightings q (sightings p pins g h)
sightings_left p q pins own g [] = refl
sightings_left p q pins own g (e ∷ h) =
    rw (seen_left p q pins own (h ++ g) e, sightings_left p q pins own g h)
    (as_sighting q e.driver (seen p pins (h ++ g) e) (sightings p pins g h))

agree_left : (q : Pin) (cs : List Change) (ss : List Sighting) → AgreeEach cs ss → AgreeEach (filter (λ v. is_not_pin q v.signal) cs) (other_sightings q ss)
agree_left q [] [] h = h
agree_left q [] (s ∷ ss) h = absurd h
agree_left q (c ∷ cs) [] h = absurd h
agree_left q (c ∷ cs) (s ∷ ss) h =
    let k = and_parts (is_same_signal c.signal s.change.signal && is_same_way c.fall s.change.fall) (are_values_of c.value s.change.value) h.0 in
    let e = signal_same c.signal s.change.signal (and_parts (is_same_signal c.signal s.change.signal) (is_same_way c.fall s.change.fall) k.0).0 in
    let other = ap (is_not_pin q) (sym e) in
    elim (cases_Bool (is_not_pin q c.signal)) [
      | inl n ↦ rw (n, other ∙ n) (h.0, agree_left q cs ss h.1)
      | inr n ↦ rw (n, other ∙ n) (agree_left q cs ss h.1)
    ]

-- ---- what was low

among_line : (q : Pin) (l : Line) (x : Signal) → is_same_signal (signal.Line l) x ≡ true → is_not_pin q x ≡ true
among_line q l (signal.Line k) h = refl
among_line q l (signal.Pin r) h = false_true h

among_pin : (q r : Pin) (x : Signal) → is_same_signal (signal.Pin r) x ≡ true → is_not_pin q x ≡ not (is_same_pin q r)
among_pin q r (signal.Line k) h = false_true h
among_pin q r (signal.Pin s) h = ap (λ t. not (is_same_pin q t)) (sym (pin_same r s h))

lows_left : (q : Pin) (pins : List Pin) (lows : List Signal) (x : Signal) → is_probed (other_pins q pins) x ≡ true
    → (is_probed pins x ≡ true) × (is_among (filter (is_not_pin q) lows) x ≡ is_among lows x)
lows_left q pins lows (signal.Line l) h =
    (h, any-filter_same (is_same_signal (signal.Line l)) (is_not_pin q) true (among_line q l) lows)
lows_left q pins lows (signal.Pin r) h =
    let k = and_parts (not (is_same_pin q r)) (list_any (is_same_pin r) pins)
    (sym (any-filter_same (is_same_pin r) (λ s. not (is_same_pin q s)) (not (is_same_pin q r))
    (λ s e. ap (λ t. not (is_same_pin q t)) (sym (pin_same r s e))) pins) ∙ h) in
    (k.1, any-filter_same (is_same_signal (signal.Pin r)) (is_not_pin q) true (λ x e. among_pin q r x e ∙ k.0) lows)

pub without_a_pin : (p : Plan) (c : Capture) (q : Pin) → has_own_wire p c.pins q ≡ true → IsPossible p c → IsPossible p (without_pin q c)
without_a_pin p c q own h = record {
  before = h.before;
  edges = h.edges;
  explains = record {
    begins = record {
      power_up = h.explains.begins.power_up;
      legal = h.explains.begins.legal;
      levels = λ x e. let k = lows_left q c.pins c.lows x e in h.explains.begins.levels x k.0 ∙ sym k.1;
    };
    legal = h.explains.legal;
    shows = rw (sightings_left p q c.pins own h.before h.edges) (agree_left q c.changes (sightings p c.pins h.before h.edges) h.explains.shows);
  };
}
