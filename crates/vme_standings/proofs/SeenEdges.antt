-- What an edge moves, by what the probes see of it.
use Rattle.std.proofs.Common.{◌≡◌, ◌∙◌, refl, sym, ap, subst, ℕ, Bool, true, false, List, [], ◌∷◌}
use Rattle.std.specs.Prelude.{◌==◌, if◌then◌else◌, Option, Some, None, find, option_map}
use Rattle.std.specs.Option.{option_and_then}
use Rattle.vme_model.specs.declared.boards.Row.{Row}
use Rattle.vme_model.specs.declared.boards.InterrupterRow.{InterrupterRow}
use Rattle.vme_model.specs.declared.boards.RequesterRow.{RequesterRow}
use Rattle.vme_model.specs.declared.sets.ChainId.{ChainId}
use Rattle.vme_model.specs.declared.sets.ChainId.TheVariants as chain
use Rattle.vme_model.specs.declared.signals.Driver.{Driver}
use Rattle.vme_model.specs.declared.signals.Driver.TheVariants.{Controller, Slot}
use Rattle.vme_model.specs.declared.signals.Wire.{Wire}
use Rattle.vme_model.specs.declared.signals.Wire.TheVariants as wire
use Rattle.vme_model.specs.declared.signals.Edge.{Edge}
use Rattle.vme_model.specs.Signals.{has_wire}
use Rattle.vme_model.specs.Plan.{Plan, board, board_of, grant_chain}
use Rattle.vme_model.specs.Accepted.{IsAccepted}
use Rattle.vme_model.specs.History.{segment}
use Rattle.vme_model.proofs.Bools.{and_left, and_right, same_number}
use Rattle.vme_histories.proofs.AllowedBoards.{stands}
use Rattle.vme_captures.specs.declared.signals.Change.{Change}
use Rattle.vme_captures.specs.declared.signals.Line.{Line}
use Rattle.vme_captures.specs.declared.signals.Line.TheVariants as on_line
use Rattle.vme_captures.specs.declared.signals.Pin.{Pin}
use Rattle.vme_captures.specs.declared.signals.Segment.{Segment}
use Rattle.vme_captures.specs.declared.signals.Signal.{Signal}
use Rattle.vme_captures.specs.declared.signals.Signal.TheVariants as signal
use Rattle.vme_captures.specs.Signals.{is_same_chain, is_same_place, is_same_segment}
use Rattle.vme_captures.specs.Wires.{wire_of, is_on, pin_on}
use Rattle.vme_captures.specs.Changes.{change_of, differ, grant_output, is_low, line_of, seen, segment_of, signal_of, signal_on, value_at}
use Rattle.vme_standings.specs.FrontCovers.{IsOfSegment}

-- what is found passes the test
found : {X : Type 0} (test : X → Bool) (xs : List X) (x : X) → find test xs ≡ Some x → test x ≡ true
found test [] x is = absurd (cc)
found test (y ∷ ys) x is = by_test (test y) refl is (found test ys x)
  where
    same : Some y ≡ Some x → y ≡ x
    same e = cc

    by_test : (b : Bool) → test y ≡ b → (if b then Some y else find test ys) ≡ Some x → (find test ys ≡ Some x → test x ≡ true) → test x ≡ true
    by_test true on h next = subst (λ z. test z ≡ true) (same h) on
    by_test false off h next = next h

same_chain : (a b : ChainId) → is_same_chain a b ≡ true → a ≡ b
same_chain chain.Bg0 chain.Bg0 e = refl
same_chain chain.Bg1 chain.Bg1 e = refl
same_chain chain.Bg2 chain.Bg2 e = refl
same_chain chain.Bg3 chain.Bg3 e = refl
same_chain chain.Iack chain.Iack e = refl
same_chain a b e = absurd (cc)

same_place : (a b : Option ℕ) → is_same_place a b ≡ true → a ≡ b
same_place None None e = refl
same_place (Some s) (Some t) e = ap (λ x. Some x) (same_number s t e)
same_place a b e = absurd (cc)

same_segment : (a b : Segment) → is_same_segment a b ≡ true → a ≡ b
same_segment a b e =
    ap (λ x. record { chain = x; place = a.place }) (same_chain a.chain b.chain (and_left (is_same_chain a.chain b.chain) (is_same_place a.place b.place) e))
    ∙ ap (λ x. record { chain = b.chain; place = x }) (same_place a.place b.place (and_right (is_same_chain a.chain b.chain) (is_same_place a.place b.place) e))

-- the wire of a pin that was found on it
pub wire_is : (p : Plan) (pins : List Pin) (g : Segment) (q : Pin) → pin_on p pins g ≡ Some q → wire_of p q ≡ g
wire_is p pins g q is = same_segment (wire_of p q) g (found (is_on p g) pins q is)

none_differ : (a b : Bool) (x : Change) → (if differ a b then Some x else None) ≡ None → (a ≡ b → ⊥) → ⊥
none_differ true true x e other = other refl
none_differ true false x e other = absurd (cc)
none_differ false true x e other = absurd (cc)
none_differ false false x e other = other refl

-- nothing is seen of a segment that moves only if no probe is on it
pub unprobed_moved : (p : Plan) (pins : List Pin) (h : List Edge) (e : Edge) (g : Segment) → line_of e.wire (board_of p e.driver) ≡ None → segment_of e.wire (board_of p e.driver) ≡ Some g
    → (segment h g.chain g.place ≡ segment (e ∷ h) g.chain g.place → ⊥) → seen p pins h e ≡ None → pin_on p pins g ≡ None
unprobed_moved p pins h e g no_line is moves none = by_pin (pin_on p pins g) refl
  where
    by_pin : (o : Option Pin) → pin_on p pins g ≡ o → pin_on p pins g ≡ None
    by_pin None at = at
    by_pin (Some q) at =
        let signal_is : signal_of p pins e ≡ Some (signal.Pin q) =
        ap (λ (l : Option Line). signal_on p pins l (segment_of e.wire (board_of p e.driver))) no_line
        ∙ ap (λ (s : Option Segment). signal_on p pins None s) is
        ∙ ap (λ (o : Option Pin). option_map (λ x. signal.Pin x) o) at in
        let unchanged : change_of p h e (signal.Pin q) ≡ None = sym (ap (λ (o : Option Signal). option_and_then (change_of p h e) o) signal_is) ∙ none in
        let wire = wire_is p pins g q at in
        absurd (none_differ (is_low p h (signal.Pin q)) (is_low p (e ∷ h) (signal.Pin q)) (record { signal = signal.Pin q; fall = e.fall; value = value_at p h e e.wire e.fall }) unchanged
        (λ same. moves (sym (ap (λ (x : Segment). segment h x.chain x.place) wire) ∙ (same ∙ ap (λ (x : Segment). segment (e ∷ h) x.chain x.place) wire))))

-- nothing is seen of a segment that falls only if no probe is on it
pub unprobed : (p : Plan) (pins : List Pin) (h : List Edge) (e : Edge) (g : Segment) → line_of e.wire (board_of p e.driver) ≡ None → segment_of e.wire (board_of p e.driver) ≡ Some g
    → segment h g.chain g.place ≡ false → segment (e ∷ h) g.chain g.place ≡ true → seen p pins h e ≡ None → pin_on p pins g ≡ None
unprobed p pins h e g no_line is high low none =
    unprobed_moved p pins h e g no_line is (λ same. fell (segment h g.chain g.place) (segment (e ∷ h) g.chain g.place) high low same) none
  where
    fell : (a b : Bool) → a ≡ false → b ≡ true → a ≡ b → ⊥
    fell a b off on same = cc

module _ (p : Plan) (pins : List Pin) (h : List Edge) (e : Edge) (v : Change) (s : seen p pins h e ≡ Some v) where
  -- what the edge moves is what was seen
  pub signal_is : signal_of p pins e ≡ Some v.signal
  signal_is = by_signal (signal_of p pins e) refl s
    where
      same : (a b : Change) → Some a ≡ Some b → a ≡ b
      same a b x = cc

      by_level : (x : Signal) (b : Bool) → (if b then Some (record { signal = x; fall = e.fall; value = value_at p h e e.wire e.fall }) else None) ≡ Some v → x ≡ v.signal
      by_level x true is = ap (λ (c : Change). c.signal) (same (record { signal = x; fall = e.fall; value = value_at p h e e.wire e.fall }) v is)
      by_level x false is = absurd (cc)

      by_signal : (o : Option Signal) → signal_of p pins e ≡ o → option_and_then (change_of p h e) o ≡ Some v → signal_of p pins e ≡ Some v.signal
      by_signal None is h' = absurd (cc)
      by_signal (Some x) is h' = is ∙ ap (λ y. Some y) (by_level x (differ (is_low p h x) (is_low p (e ∷ h) x)) h')

  -- a shared line
  pub line_is : (l : Line) → v.signal ≡ signal.Line l → line_of e.wire (board_of p e.driver) ≡ Some l
  line_is l is = by_line (line_of e.wire (board_of p e.driver)) (segment_of e.wire (board_of p e.driver)) (signal_is ∙ ap (λ x. Some x) is)
    where
      same : (a b : Line) → Some (signal.Line a) ≡ Some (signal.Line b) → Some a ≡ Some b
      same a b x = cc

      no_pin : (o : Option Pin) → option_map (λ x. signal.Pin x) o ≡ Some (signal.Line l) → ⊥
      no_pin None x = absurd (cc)
      no_pin (Some q) x = absurd (cc)

      by_line : (a : Option Line) (b : Option Segment) → signal_on p pins a b ≡ Some (signal.Line l) → a ≡ Some l
      by_line (Some a) b x = same a l x
      by_line None b x = absurd (no_pin (option_and_then (pin_on p pins) b) x)

  -- a probed segment
  pub segment_is : (q : Pin) → v.signal ≡ signal.Pin q → segment_of e.wire (board_of p e.driver) ≡ Some (wire_of p q)
  segment_is q is = by_line (line_of e.wire (board_of p e.driver)) (segment_of e.wire (board_of p e.driver)) (signal_is ∙ ap (λ x. Some x) is)
    where
      same : (a b : Pin) → Some (signal.Pin a) ≡ Some (signal.Pin b) → Some a ≡ Some b
      same a b x = cc

      of_pin : (o : Option Pin) → option_map (λ x. signal.Pin x) o ≡ Some (signal.Pin q) → o ≡ Some q
      of_pin None x = absurd (cc)
      of_pin (Some a) x = same a q x

      by_line : (a : Option Line) (b : Option Segment) → signal_on p pins a b ≡ Some (signal.Pin q) → b ≡ Some (wire_of p q)
      by_line (Some a) b x = absurd (cc)
      by_line None None x = absurd (cc)
      by_line None (Some g) x = ap (λ y. Some y) (sym (wire_is p pins g q (of_pin (pin_on p pins g) x)))

-- BERR* is moved by the controller
pub berr_is : (d : Driver) (w : Wire) (r : Option Row) → has_wire d w ≡ true → line_of w r ≡ Some on_line.Berr → (d ≡ Controller) × (w ≡ wire.Berr)
berr_is Controller wire.Berr r has is = (refl, refl)
berr_is d wire.Br r has is = absurd (no_request (option_and_then (λ (b : Row). b.requester) r) is)
  where
    no_request : (o : Option RequesterRow) → option_map (λ q. on_line.Br q.level) o ≡ Some on_line.Berr → ⊥
    no_request None x = absurd (cc)
    no_request (Some q) x = absurd (cc)
berr_is d wire.Irq r has is = absurd (no_interrupt (option_and_then (λ (b : Row). b.interrupter) r) is)
  where
    no_interrupt : (o : Option InterrupterRow) → option_map (λ i. on_line.Irq i.level) o ≡ Some on_line.Berr → ⊥
    no_interrupt None x = absurd (cc)
    no_interrupt (Some i) x = absurd (cc)
berr_is d w r has is = absurd (cc)

no_grant : (a b c : Bool) → (if a then chain.Bg0 else (if b then chain.Bg1 else (if c then chain.Bg2 else chain.Bg3))) ≡ chain.Iack → ⊥
no_grant true b c e = absurd (cc)
no_grant false true c e = absurd (cc)
no_grant false false true e = absurd (cc)
no_grant false false false e = absurd (cc)

pub chain_is : (a b : Segment) → Some a ≡ Some b → a.chain ≡ b.chain
chain_is a b e = let same : a ≡ b = cc in ap (λ (x : Segment). x.chain) same

pub place_is : (a b : Segment) → Some a ≡ Some b → a.place ≡ b.place
place_is a b e = let same : a ≡ b = cc in ap (λ (x : Segment). x.place) same

-- a segment of the acknowledge chain is moved by who drives it
pub of_segment : (p : Plan) → IsAccepted p → (e : Edge) (place : Option ℕ) → has_wire e.driver e.wire ≡ true
    → segment_of e.wire (board_of p e.driver) ≡ Some (record { chain = chain.Iack; place = place }) → IsOfSegment e place
of_segment p ok e place has is = by_wire e.driver e.wire refl refl has is
  where
    of_requester : (r : Row) (o : Option RequesterRow) → option_map {U = Segment} (λ (q : RequesterRow). record { chain = grant_chain q.level; place = Some r.slot }) o
        ≡ Some (record { chain = chain.Iack; place = place }) → ⊥
    of_requester r None x = absurd (cc)
    of_requester r (Some q) x = no_grant (q.level == 0) (q.level == 1) (q.level == 2) (chain_is (record { chain = grant_chain q.level; place = Some r.slot })
        (record { chain = chain.Iack; place = place }) x)

    of_board : (o : Option Row) → grant_output o ≡ Some (record { chain = chain.Iack; place = place }) → ⊥
    of_board None x = absurd (cc)
    of_board (Some r) x = of_requester r r.requester x

    by_board : (s : ℕ) (o : Option Row) → board p s ≡ o → e.driver ≡ Slot s → e.wire ≡ wire.IackOut → segment_of wire.IackOut o ≡ Some (record { chain = chain.Iack; place = place })
        → IsOfSegment e place
    by_board s None at driver w x = absurd (cc)
    by_board s (Some r) at driver w x =
        let own : Some r.slot ≡ place = place_is (record { chain = chain.Iack; place = Some r.slot }) (record { chain = chain.Iack; place = place }) x in
        subst (IsOfSegment e) (ap (λ t. Some t) (sym (stands p s r ok at).slot) ∙ own) (driver, w)

    by_wire : (d : Driver) (w : Wire) → e.driver ≡ d → e.wire ≡ w → has_wire d w ≡ true → segment_of w (board_of p d) ≡ Some (record { chain = chain.Iack; place = place }) → IsOfSegment e place
    by_wire Controller wire.Iack driver w has x =
        subst (IsOfSegment e) (place_is (record { chain = chain.Iack; place = None }) (record { chain = chain.Iack; place = place }) x) (driver, w)
    by_wire (Slot s) wire.Iack driver w has x = absurd (cc)
    by_wire (Slot s) wire.IackOut driver w has x = by_board s (board p s) refl driver w x
    by_wire d (wire.Bg n) driver w has x = absurd (no_grant (n == 0) (n == 1) (n == 2) (chain_is (record { chain = grant_chain n; place = None }) (record { chain = chain.Iack; place = place }) x))
    by_wire d wire.BgOut driver w has x = absurd (of_board (board_of p d) x)
    by_wire d w driver w' has x = absurd (cc)
