-- How the levels of the shared lines and of the segments move with an edge.
use Rattle.std.proofs.Common.{◌≡◌, ◌≢◌, ◌∙◌, refl, sym, ap, ℕ, Bool, true, false, List, [], ◌∷◌, arith}
use Rattle.std.specs.Prelude.{◌==◌, ◌&&◌, ◌||◌, if◌then◌else◌, Option, Some, None, option_map}
use Rattle.std.specs.List.{list_any, All}
use Rattle.std.specs.Option.{option_map_or}
use Rattle.std.proofs.lemmas.List.Elements.{All-head, All-tail}
use Rattle.vme_model.specs.declared.boards.Row.{Row}
use Rattle.vme_model.specs.declared.boards.InterrupterRow.{InterrupterRow}
use Rattle.vme_model.specs.declared.boards.RequesterRow.{RequesterRow}
use Rattle.vme_model.specs.declared.signals.Driver.{Driver}
use Rattle.vme_model.specs.declared.signals.Driver.TheVariants.{Controller, Slot}
use Rattle.vme_model.specs.declared.signals.Wire.{Wire}
use Rattle.vme_model.specs.declared.signals.Wire.TheVariants as wire
use Rattle.vme_model.specs.declared.signals.Edge.{Edge}
use Rattle.vme_model.specs.Signals.{is_edge_of, is_same_driver, is_same_wire}
use Rattle.vme_model.specs.Plan.{Plan, board, board_of, drives, interrupts_on, requests_on}
use Rattle.vme_model.specs.Accepted.{IsAccepted}
use Rattle.vme_model.specs.History.{drive}
use Rattle.vme_model.proofs.Bools.{and_left, and_right, same_number}
use Rattle.vme_model.proofs.Ranges.{IsRowInRange, in_range}
use Rattle.vme_histories.proofs.Drivers.{same_driver}
use Rattle.vme_histories.proofs.Others.{same_wire}
use Rattle.vme_captures.specs.declared.signals.Change.{Change}
use Rattle.vme_captures.specs.declared.signals.Line.{Line}
use Rattle.vme_captures.specs.declared.signals.Line.TheVariants as on_line
use Rattle.vme_captures.specs.declared.signals.Pin.{Pin}
use Rattle.vme_captures.specs.declared.signals.Signal.TheVariants as signal
use Rattle.vme_captures.specs.Changes.{differ, is_line_low, line_of, seen}
use Rattle.vme_captures.specs.Signals.{is_same_line}
use Rattle.vme_captures.proofs.Same.{line_other, line_same}
use Rattle.vme_standings.proofs.SeenEdges.{line_is}
use Rattle.vme_standings.proofs.SeenLines.{differs, line_stays, way}
use Rattle.vme_standings.proofs.Tests.{both, never}

-- a wire at another level behind an edge was moved by it
abbrev move : Bool → Bool → Bool → Bool
move b way before = if b then way else before

grows : (b before : Bool) → before ≡ true → move b true before ≡ true
grows true before low = refl
grows false before low = low

shrinks : (b before : Bool) → move b false before ≡ true → before ≡ true
shrinks true before low = absurd (cc)
shrinks false before low = low

pub drive_grows : (h : List Edge) (e : Edge) (d : Driver) (w : Wire) → e.fall ≡ true → drive h d w ≡ true → drive (e ∷ h) d w ≡ true
drive_grows h e d w fall low = ap (λ f. move (is_edge_of d w e) f (drive h d w)) fall ∙ grows (is_edge_of d w e) (drive h d w) low

pub drive_shrinks : (h : List Edge) (e : Edge) (d : Driver) (w : Wire) → e.fall ≡ false → drive (e ∷ h) d w ≡ true → drive h d w ≡ true
drive_shrinks h e d w rise low = shrinks (is_edge_of d w e) (drive h d w) (sym (ap (λ f. move (is_edge_of d w e) f (drive h d w)) rise) ∙ low)

pub drive_stays : (h : List Edge) (e : Edge) (d : Driver) (w : Wire) → (is_edge_of d w e ≡ true → ⊥) → drive (e ∷ h) d w ≡ drive h d w
drive_stays h e d w nay = by_test (is_edge_of d w e) refl
  where
    by_test : (b : Bool) → is_edge_of d w e ≡ b → move b e.fall (drive h d w) ≡ drive h d w
    by_test true is = absurd (nay is)
    by_test false is = refl

-- a level that differs behind an edge is in its direction
pub turned : (fall before behind : Bool) → (fall ≡ true → before ≡ true → behind ≡ true) → (fall ≡ false → behind ≡ true → before ≡ true) → differ before behind ≡ true → behind ≡ fall
turned true true true up down d = refl
turned true false true up down d = refl
turned true true false up down d = absurd (never false (up refl refl) refl)
turned true false false up down d = absurd (cc)
turned false true true up down d = absurd (cc)
turned false true false up down d = refl
turned false false true up down d = absurd (never false (down refl refl) refl)
turned false false false up down d = refl

-- some row passes
any_more : (f g : Row → Bool) (rows : List Row) → ((r : Row) → f r ≡ true → g r ≡ true) → list_any f rows ≡ true → list_any g rows ≡ true
any_more f g [] more low = low
any_more f g (r ∷ rows) more low = by_first (f r) refl (any_more f g rows more) low
  where
    first : (a b : Bool) → a ≡ true → (a || b) ≡ true
    first a b e = grind arith

    second : (a b : Bool) → b ≡ true → (a || b) ≡ true
    second a b e = grind arith

    by_first : (b : Bool) → f r ≡ b → (list_any f rows ≡ true → list_any g rows ≡ true) → (b || list_any f rows) ≡ true → (g r || list_any g rows) ≡ true
    by_first true is next e = first (g r) (list_any g rows) (more r is)
    by_first false is next e = second (g r) (list_any g rows) (next e)

any_same : (f g : Row → Bool) (P : Row → Type 0) (rows : List Row) → All P rows → ((r : Row) → P r → f r ≡ g r) → list_any f rows ≡ list_any g rows
any_same f g P [] all same = refl
any_same f g P (r ∷ rows) all same =
    ap (λ b. b || list_any f rows) (same r (All-head P r rows all))
    ∙ ap (λ b. g r || b) (any_same f g P rows (All-tail P r rows all) same)

-- a line that boards pull which pass a test
abbrev pulled : Plan → (Row → Bool) → Wire → List Edge → Bool
pulled p test w h = list_any (λ r. test r && drive h (Slot r.slot) w) p.rows

pulled_grows : (p : Plan) (test : Row → Bool) (w : Wire) (h : List Edge) (e : Edge) → e.fall ≡ true → pulled p test w h ≡ true → pulled p test w (e ∷ h) ≡ true
pulled_grows p test w h e fall low =
    any_more (λ r. test r && drive h (Slot r.slot) w) (λ r. test r && drive (e ∷ h) (Slot r.slot) w) p.rows
    (λ r on. both (test r) (drive (e ∷ h) (Slot r.slot) w) (and_left (test r) (drive h (Slot r.slot) w) on)
    (drive_grows h e (Slot r.slot) w fall (and_right (test r) (drive h (Slot r.slot) w) on)))
    low

pulled_shrinks : (p : Plan) (test : Row → Bool) (w : Wire) (h : List Edge) (e : Edge) → e.fall ≡ false → pulled p test w (e ∷ h) ≡ true → pulled p test w h ≡ true
pulled_shrinks p test w h e rise low =
    any_more (λ r. test r && drive (e ∷ h) (Slot r.slot) w) (λ r. test r && drive h (Slot r.slot) w) p.rows
    (λ r on. both (test r) (drive h (Slot r.slot) w) (and_left (test r) (drive (e ∷ h) (Slot r.slot) w) on)
    (drive_shrinks h e (Slot r.slot) w rise (and_right (test r) (drive (e ∷ h) (Slot r.slot) w) on)))
    low

pulled_stays : (p : Plan) → IsAccepted p → (test : Row → Bool) (w : Wire) (h : List Edge) (e : Edge)
    → ((r : Row) → board p r.slot ≡ Some r → test r ≡ true → is_edge_of (Slot r.slot) w e ≡ true → ⊥) → pulled p test w (e ∷ h) ≡ pulled p test w h
pulled_stays p ok test w h e nay =
    any_same (λ r. test r && drive (e ∷ h) (Slot r.slot) w) (λ r. test r && drive h (Slot r.slot) w) (IsRowInRange p) p.rows (in_range p ok).rows
    (λ r range. by_test r range.alone (test r) refl)
  where
    by_test : (r : Row) → board p r.slot ≡ Some r → (b : Bool) → test r ≡ b → (b && drive (e ∷ h) (Slot r.slot) w) ≡ (b && drive h (Slot r.slot) w)
    by_test r found true is = drive_stays h e (Slot r.slot) w (nay r found is)
    by_test r found false is = refl

line_grows : (p : Plan) (h : List Edge) (e : Edge) (l : Line) → e.fall ≡ true → is_line_low p h l ≡ true → is_line_low p (e ∷ h) l ≡ true
line_grows p h e (on_line.Br n) = pulled_grows p (requests_on n) wire.Br h e
line_grows p h e (on_line.Irq n) = pulled_grows p (interrupts_on n) wire.Irq h e
line_grows p h e on_line.Bbsy = pulled_grows p (drives wire.Bbsy) wire.Bbsy h e
line_grows p h e on_line.AddressStrobe = pulled_grows p (drives wire.AddressStrobe) wire.AddressStrobe h e
line_grows p h e on_line.DataStrobe = pulled_grows p (drives wire.DataStrobe) wire.DataStrobe h e
line_grows p h e on_line.Dtack = pulled_grows p (drives wire.Dtack) wire.Dtack h e
line_grows p h e on_line.Berr = drive_grows h e Controller wire.Berr
line_grows p h e on_line.Bclr = drive_grows h e Controller wire.Bclr

line_shrinks : (p : Plan) (h : List Edge) (e : Edge) (l : Line) → e.fall ≡ false → is_line_low p (e ∷ h) l ≡ true → is_line_low p h l ≡ true
line_shrinks p h e (on_line.Br n) = pulled_shrinks p (requests_on n) wire.Br h e
line_shrinks p h e (on_line.Irq n) = pulled_shrinks p (interrupts_on n) wire.Irq h e
line_shrinks p h e on_line.Bbsy = pulled_shrinks p (drives wire.Bbsy) wire.Bbsy h e
line_shrinks p h e on_line.AddressStrobe = pulled_shrinks p (drives wire.AddressStrobe) wire.AddressStrobe h e
line_shrinks p h e on_line.DataStrobe = pulled_shrinks p (drives wire.DataStrobe) wire.DataStrobe h e
line_shrinks p h e on_line.Dtack = pulled_shrinks p (drives wire.Dtack) wire.Dtack h e
line_shrinks p h e on_line.Berr = drive_shrinks h e Controller wire.Berr
line_shrinks p h e on_line.Bclr = drive_shrinks h e Controller wire.Bclr

-- a line that is seen to change is behind it where the edge moved it
pub line_turned : (p : Plan) (h : List Edge) (e : Edge) (l : Line) → differ (is_line_low p h l) (is_line_low p (e ∷ h) l) ≡ true → is_line_low p (e ∷ h) l ≡ e.fall
line_turned p h e l = turned e.fall (is_line_low p h l) (is_line_low p (e ∷ h) l) (line_grows p h e l) (line_shrinks p h e l)

-- an edge of none of a line's wires leaves it
module _ (p : Plan) (ok : IsAccepted p) (h : List Edge) (e : Edge) where
  wire_is : (d : Driver) (w : Wire) → is_edge_of d w e ≡ true → e.wire ≡ w
  wire_is d w is = same_wire e.wire w (and_left (is_same_wire e.wire w) (is_same_driver e.driver d) is)

  driver_is : (d : Driver) (w : Wire) → is_edge_of d w e ≡ true → e.driver ≡ d
  driver_is d w is = same_driver e.driver d (and_right (is_same_wire e.wire w) (is_same_driver e.driver d) is)

  moves : (r : Row) (w : Wire) → board p r.slot ≡ Some r → is_edge_of (Slot r.slot) w e ≡ true → line_of e.wire (board_of p e.driver) ≡ line_of w (Some r)
  moves r w found is =
      ap (λ x. line_of x (board_of p e.driver)) (wire_is (Slot r.slot) w is)
      ∙ ap (λ d. line_of w (board_of p d)) (driver_is (Slot r.slot) w is)
      ∙ ap (λ (o : Option Row). line_of w o) found

  request_is : (n : ℕ) (o : Option RequesterRow) → option_map_or (λ q. q.level == n) o false ≡ true → option_map (λ q. on_line.Br q.level) o ≡ Some (on_line.Br n)
  request_is n None on = absurd (cc)
  request_is n (Some q) on = ap (λ x. Some (on_line.Br x)) (same_number q.level n on)

  interrupt_is : (n : ℕ) (o : Option InterrupterRow) → option_map_or (λ i. i.level == n) o false ≡ true → option_map (λ i. on_line.Irq i.level) o ≡ Some (on_line.Irq n)
  interrupt_is n None on = absurd (cc)
  interrupt_is n (Some i) on = ap (λ x. Some (on_line.Irq x)) (same_number i.level n on)

  pub other_stays : (l : Line) → (line_of e.wire (board_of p e.driver) ≡ Some l → ⊥) → is_line_low p (e ∷ h) l ≡ is_line_low p h l
  other_stays (on_line.Br n) nay = pulled_stays p ok (requests_on n) wire.Br h e (λ r found on is. nay (moves r wire.Br found is ∙ request_is n r.requester on))
  other_stays (on_line.Irq n) nay = pulled_stays p ok (interrupts_on n) wire.Irq h e (λ r found on is. nay (moves r wire.Irq found is ∙ interrupt_is n r.interrupter on))
  other_stays on_line.Bbsy nay = pulled_stays p ok (drives wire.Bbsy) wire.Bbsy h e (λ r found on is. nay (moves r wire.Bbsy found is))
  other_stays on_line.AddressStrobe nay = pulled_stays p ok (drives wire.AddressStrobe) wire.AddressStrobe h e (λ r found on is. nay (moves r wire.AddressStrobe found is))
  other_stays on_line.DataStrobe nay = pulled_stays p ok (drives wire.DataStrobe) wire.DataStrobe h e (λ r found on is. nay (moves r wire.DataStrobe found is))
  other_stays on_line.Dtack nay = pulled_stays p ok (drives wire.Dtack) wire.Dtack h e (λ r found on is. nay (moves r wire.Dtack found is))
  other_stays on_line.Berr nay = drive_stays h e Controller wire.Berr (λ is. nay (ap (λ x. line_of x (board_of p e.driver)) (wire_is Controller wire.Berr is)))
  other_stays on_line.Bclr nay = drive_stays h e Controller wire.Bclr (λ is. nay (ap (λ x. line_of x (board_of p e.driver)) (wire_is Controller wire.Bclr is)))

  -- an edge that nay probe sees leaves all lines
  pub lines_stay : (pins : List Pin) → seen p pins h e ≡ None → (l : Line) → is_line_low p (e ∷ h) l ≡ is_line_low p h l
  lines_stay pins none l = by_line (line_of e.wire (board_of p e.driver)) refl
    where
      by_line : (o : Option Line) → line_of e.wire (board_of p e.driver) ≡ o → is_line_low p (e ∷ h) l ≡ is_line_low p h l
      by_line None is = other_stays l (λ x. absurd (cc (sym is ∙ x)))
      by_line (Some k) is = by_test (is_same_line k l) refl
        where
          unlike : Some k ≡ Some l → l ≢ k → ⊥
          unlike x nay = let same : l ≡ k = cc in nay same

          by_test : (b : Bool) → is_same_line k l ≡ b → is_line_low p (e ∷ h) l ≡ is_line_low p h l
          by_test true same = line_stays p pins h e l (is ∙ ap (λ x. Some x) (line_same k l same)) none
          by_test false other = other_stays l (λ x. unlike (sym is ∙ x) (line_other k l other))

  -- behind a change that is seen the line is where it moved it, and the others are where they were
  module _ (pins : List Pin) (v : Change) (s : seen p pins h e ≡ Some v) where
    pub seen_turned : (l : Line) → v.signal ≡ signal.Line l → is_line_low p (e ∷ h) l ≡ v.fall
    seen_turned l is = line_turned p h e l (differs p ok pins h e v s (signal.Line l) is) ∙ way p ok pins h e v s v.fall refl

    pub seen_stays : (k l : Line) → v.signal ≡ signal.Line k → l ≢ k → is_line_low p (e ∷ h) l ≡ is_line_low p h l
    seen_stays k l is other = other_stays l (λ x. unlike (sym (line_is p pins h e v s k is) ∙ x))
      where
        unlike : Some k ≡ Some l → ⊥
        unlike x = let same : l ≡ k = cc in other same
