-- How the levels that the probes see move with an edge, those of the segments and all together.
use Rattle.std.proofs.Common.{◌≡◌, ◌∙◌, refl, sym, ap, subst, ℕ, zero, suc, Bool, true, false, List, ◌∷◌, ◌<◌, ◌≤◌, arith}
use Rattle.std.specs.Prelude.{◌==◌, ◌&&◌, if◌then◌else◌, Option, Some, None, is_some, option_map, unwrap_or}
use Rattle.std.specs.Option.{option_map_or, option_and_then}
use Rattle.std.proofs.lemmas.Bool.Decides.{nat_tests}
use Rattle.vme_model.specs.declared.boards.Row.{Row}
use Rattle.vme_model.specs.declared.boards.RequesterRow.{RequesterRow}
use Rattle.vme_model.specs.declared.sets.ChainId.{ChainId}
use Rattle.vme_model.specs.declared.sets.ChainId.TheVariants as chain
use Rattle.vme_model.specs.declared.signals.Driver.{Driver}
use Rattle.vme_model.specs.declared.signals.Driver.TheVariants.{Controller, Slot}
use Rattle.vme_model.specs.declared.signals.Wire.{Wire}
use Rattle.vme_model.specs.declared.signals.Wire.TheVariants as wire
use Rattle.vme_model.specs.declared.signals.Edge.{Edge}
use Rattle.vme_model.specs.Signals.{is_edge_of, is_same_driver, is_same_wire}
use Rattle.vme_model.specs.Plan.{Plan, board, board_of, grant_chain, head_wire, is_active, out_wire, upstream, works}
use Rattle.vme_model.specs.Accepted.{IsAccepted}
use Rattle.vme_model.specs.History.{segment}
use Rattle.vme_model.proofs.Below.{IsBelow, is_below}
use Rattle.vme_model.proofs.Bools.{and_left, and_right, same_number}
use Rattle.vme_histories.proofs.AllowedBoards.{stands}
use Rattle.vme_histories.proofs.Drivers.{same_driver}
use Rattle.vme_histories.proofs.Others.{same_wire}
use Rattle.vme_captures.specs.declared.levels.Levels.{Levels}
use Rattle.vme_captures.specs.declared.signals.Change.{Change}
use Rattle.vme_captures.specs.declared.signals.Line.{Line}
use Rattle.vme_captures.specs.declared.signals.Pin.{Pin}
use Rattle.vme_captures.specs.declared.signals.Segment.{Segment}
use Rattle.vme_captures.specs.declared.signals.Side.{Side}
use Rattle.vme_captures.specs.declared.signals.Side.TheVariants.{In, Out}
use Rattle.vme_captures.specs.declared.signals.Signal.{Signal}
use Rattle.vme_captures.specs.declared.signals.Signal.TheVariants as signal
use Rattle.vme_captures.specs.Changes.{differ, is_line_low, line_of, seen, segment_of, signal_on}
use Rattle.vme_captures.specs.Levels.{is_line_left_low}
use Rattle.vme_captures.specs.Signals.{is_line, is_same_chain, is_same_line}
use Rattle.vme_captures.specs.Wires.{input_wire, pin_on, wire_of, wire_on}
use Rattle.vme_captures.proofs.Same.{line_other, line_same}
use Rattle.vme_standings.specs.declared.segments.Segments.{Segments}
use Rattle.vme_standings.specs.Behind.{LinesBehind, LowBehind, SetsWire}
use Rattle.vme_standings.specs.Covers.{AreLevels, is_probed, is_segment_low, segment_at}
use Rattle.vme_standings.specs.Segments.{has_segment}
use Rattle.vme_standings.proofs.JoinedLevels.{drive_grows, drive_shrinks, lines_stay, other_stays, seen_stays, seen_turned, turned}
use Rattle.vme_standings.proofs.SeenEdges.{chain_is, line_is, place_is, segment_is, signal_is, unprobed_moved, wire_is}
use Rattle.vme_standings.proofs.SeenLines.{differs, way}
use Rattle.vme_standings.proofs.Tests.{both, never}

-- a board that works a chain
record Works (p : Plan) (c : ChainId) (t : ℕ) : Type 0 where
  row : Row
  found : board p t ≡ Some row
  works : works c row ≡ true

works_of : (p : Plan) (c : ChainId) (t : ℕ) (o : Option Row) → board p t ≡ o → option_map_or (works c) o false ≡ true → Works p c t
works_of p c t None is on = absurd (cc)
works_of p c t (Some r) is on = record { row = r; found = is; works = on }

works_at : (p : Plan) (c : ChainId) (t : ℕ) → is_active p.rows c t ≡ true → Works p c t
works_at p c t on = works_of p c t (board p t) refl on

-- a segment moves no line
pub no_line : (w : Wire) (r : Option Row) (g : Segment) → segment_of w r ≡ Some g → line_of w r ≡ None
no_line (wire.Bg n) r g is = refl
no_line wire.Iack r g is = refl
no_line wire.BgOut r g is = refl
no_line wire.IackOut r g is = refl
no_line w r g is = absurd (cc)

module _ (p : Plan) (ok : IsAccepted p) where
  from_one : (c : ChainId) (t : ℕ) → is_active p.rows c t ≡ true → 0 < t
  from_one c t on =
      let b = works_at p c t on in
      let l : 1 ≤ t = (stands p t b.row ok b.found).from_one in
      omega (arith, l)

  within : (c : ChainId) (t : ℕ) → is_active p.rows c t ≡ true → (1 ≤ t) × (t ≤ p.slots)
  within c t on =
      let b = works_at p c t on in
      let s = stands p t b.row ok b.found in
      (s.from_one, s.to_last)

  -- the place of an input, and of an output
  input_place : (c : ChainId) (s t : ℕ) → upstream p c s ≡ Some t → is_active p.rows c t ≡ true
  input_place c s t is = by_found (upstream p c s) is (is_below (is_active p.rows c) p.slots s (within c))
    where
      same : (a b : ℕ) → Some a ≡ Some b → a ≡ b
      same a b e = cc

      by_found : (o : Option ℕ) → o ≡ Some t → IsBelow (is_active p.rows c) s o → is_active p.rows c t ≡ true
      by_found None e b = absurd (cc)
      by_found (Some x) e b = subst (λ y. is_active p.rows c y ≡ true) (same x t e) b.passes

  -- the wire of a pin is of its chain, and the controller's or that of a board that works the chain
  record OfChain (c : ChainId) (g : Segment) : Type 0 where
    same : g.chain ≡ c
    works : (t : ℕ) → g.place ≡ Some t → is_active p.rows c t ≡ true

  of_side : (c : ChainId) (s : ℕ) (x : Side) → OfChain c (wire_on p c s x)
  of_side c s In = record { same = refl; works = λ t is. input_place c s t is }
  of_side c s Out = by_test (is_active p.rows c s) refl
    where
      own : (t : ℕ) → Some s ≡ Some t → s ≡ t
      own t e = cc

      by_test : (b : Bool) → is_active p.rows c s ≡ b → OfChain c (if b then record { chain = c; place = Some s } else input_wire p c s)
      by_test true on = record { same = refl; works = λ t is. subst (λ y. is_active p.rows c y ≡ true) (own t is) on }
      by_test false off = record { same = refl; works = λ t is. input_place c s t is }

  abbrev pub place_of_pin : Pin → ℕ
  place_of_pin q = unwrap_or (wire_of p q).place 0

  pub wire_at : (q : Pin) → wire_of p q ≡ segment_at q.chain (place_of_pin q)
  wire_at q = by_place (wire_of p q).chain (wire_of p q).place (of_side q.chain q.slot q.side).same (λ t is. from_one q.chain t ((of_side q.chain q.slot q.side).works t is))
    where
      by_place : (c : ChainId) (o : Option ℕ) → c ≡ q.chain → ((t : ℕ) → o ≡ Some t → 0 < t) → record { chain = c; place = o } ≡ segment_at q.chain (unwrap_or o 0)
      by_place c None same from = ap (λ x. record { chain = x; place = None }) same
      by_place c (Some zero) same from = absurd (let l = from zero refl in omega (arith, l))
      by_place c (Some (suc t)) same from = ap (λ x. record { chain = x; place = Some (suc t) }) same

  -- an edge that moves a segment
  abbrev is_moved : ChainId → ℕ → Edge → Bool
  is_moved c zero e = is_edge_of Controller (head_wire c) e
  is_moved c (suc t) e = is_edge_of (Slot (suc t)) (out_wire c) e

  low_after : (h : List Edge) (e : Edge) (c : ChainId) (s : ℕ) → is_segment_low (e ∷ h) c s ≡ (if is_moved c s e then e.fall else is_segment_low h c s)
  low_after h e c zero = refl
  low_after h e c (suc t) = refl

  head_segment : (c : ChainId) (r : Option Row) → segment_of (head_wire c) r ≡ Some (segment_at c zero)
  head_segment chain.Bg0 r = refl
  head_segment chain.Bg1 r = refl
  head_segment chain.Bg2 r = refl
  head_segment chain.Bg3 r = refl
  head_segment chain.Iack r = refl

  grant_at : (n : ℕ) (r : Row) (o : Option RequesterRow) → option_map_or (λ q. q.level == n) o false ≡ true
      → option_map {U = Segment} (λ (q : RequesterRow). record { chain = grant_chain q.level; place = Some r.slot }) o ≡ Some (record { chain = grant_chain n; place = Some r.slot })
  grant_at n r None on = absurd (cc)
  grant_at n r (Some q) on = ap (λ l. Some (record { chain = grant_chain l; place = Some r.slot })) (same_number q.level n on)

  output_segment : (c : ChainId) (r : Row) → works c r ≡ true → segment_of (out_wire c) (Some r) ≡ Some (record { chain = c; place = Some r.slot })
  output_segment chain.Bg0 r on = grant_at 0 r r.requester on
  output_segment chain.Bg1 r on = grant_at 1 r r.requester on
  output_segment chain.Bg2 r on = grant_at 2 r r.requester on
  output_segment chain.Bg3 r on = grant_at 3 r r.requester on
  output_segment chain.Iack r on = refl

  moves : (e : Edge) (d : Driver) (w : Wire) → is_edge_of d w e ≡ true → segment_of e.wire (board_of p e.driver) ≡ segment_of w (board_of p d)
  moves e d w is =
      ap (λ x. segment_of x (board_of p e.driver)) (same_wire e.wire w (and_left (is_same_wire e.wire w) (is_same_driver e.driver d) is))
      ∙ ap (λ x. segment_of w (board_of p x)) (same_driver e.driver d (and_right (is_same_wire e.wire w) (is_same_driver e.driver d) is))

  module _ (pins : List Pin) where
    -- a probed segment is one that its chain has
    pub probed_works : (c : ChainId) (t : ℕ) → is_probed p pins c (suc t) ≡ true → is_active p.rows c (suc t) ≡ true
    probed_works c t on = by_pin (pin_on p pins (segment_at c (suc t))) refl on
      where
        by_pin : (o : Option Pin) → pin_on p pins (segment_at c (suc t)) ≡ o → is_some o ≡ true → is_active p.rows c (suc t) ≡ true
        by_pin None is x = absurd (cc)
        by_pin (Some q) is x =
            let g = wire_is p pins (segment_at c (suc t)) q is in
            let of = of_side q.chain q.slot q.side in
            subst (λ y. is_active p.rows y (suc t) ≡ true) (sym of.same ∙ ap (λ (z : Segment). z.chain) g) (of.works (suc t) (ap (λ (z : Segment). z.place) g))

    pub moved_is : (e : Edge) (c : ChainId) (s : ℕ) → is_probed p pins c s ≡ true → is_moved c s e ≡ true → segment_of e.wire (board_of p e.driver) ≡ Some (segment_at c s)
    moved_is e c zero on is = moves e Controller (head_wire c) is ∙ head_segment c None
    moved_is e c (suc t) on is =
        let b = works_at p c (suc t) (probed_works c t on) in
        moves e (Slot (suc t)) (out_wire c) is
        ∙ ap (λ (o : Option Row). segment_of (out_wire c) o) b.found
        ∙ output_segment c b.row b.works
        ∙ ap (λ x. Some (record { chain = c; place = Some x })) (stands p (suc t) b.row ok b.found).slot

    module _ (h : List Edge) (e : Edge) where
      unmoved : (c : ChainId) (s : ℕ) → is_moved c s e ≡ false → is_segment_low (e ∷ h) c s ≡ is_segment_low h c s
      unmoved c s off = low_after h e c s ∙ ap (λ b. if b then e.fall else is_segment_low h c s) off

      -- an edge of no probed segment leaves their levels
      stays_unless : (c : ChainId) (s : ℕ) → (segment_of e.wire (board_of p e.driver) ≡ Some (segment_at c s) → ⊥)
          → (is_probed p pins c s && is_segment_low (e ∷ h) c s) ≡ (is_probed p pins c s && is_segment_low h c s)
      stays_unless c s nay = by_probe (is_probed p pins c s) refl (is_moved c s e) refl
        where
          by_probe : (b : Bool) → is_probed p pins c s ≡ b → (m : Bool) → is_moved c s e ≡ m → (b && is_segment_low (e ∷ h) c s) ≡ (b && is_segment_low h c s)
          by_probe false off m is = refl
          by_probe true on true is = absurd (nay (moved_is e c s on is))
          by_probe true on false is = unmoved c s is

      equal_unless : (a b : Bool) → ((b ≡ a → ⊥) → ⊥) → a ≡ b
      equal_unless true true nay = refl
      equal_unless false false nay = refl
      equal_unless true false nay = absurd (nay (λ x. cc))
      equal_unless false true nay = absurd (nay (λ x. cc))

      -- so does one that no probe sees
      pub segments_stay : seen p pins h e ≡ None → (c : ChainId) (s : ℕ)
          → (is_probed p pins c s && is_segment_low (e ∷ h) c s) ≡ (is_probed p pins c s && is_segment_low h c s)
      segments_stay none c s = by_probe (is_probed p pins c s) refl (is_moved c s e) refl
        where
          some_none : (o : Option Pin) → is_some o ≡ true → o ≡ None → ⊥
          some_none None a b = cc
          some_none (Some q) a b = cc

          by_probe : (b : Bool) → is_probed p pins c s ≡ b → (m : Bool) → is_moved c s e ≡ m → (b && is_segment_low (e ∷ h) c s) ≡ (b && is_segment_low h c s)
          by_probe false off m is = refl
          by_probe true on false is = unmoved c s is
          by_probe true on true is =
              let g = moved_is e c s on is in
              equal_unless (is_segment_low (e ∷ h) c s) (is_segment_low h c s)
              (λ other. some_none (pin_on p pins (segment_at c s)) on
              (unprobed_moved p pins h e (segment_at c s) (no_line e.wire (board_of p e.driver) (segment_at c s) g) g other none))

      -- behind a change that is seen
      module _ (v : Change) (s : seen p pins h e ≡ Some v) where
        -- a shared line moves no segment
        pub line_leaves : (l : Line) → v.signal ≡ signal.Line l → (c : ChainId) (t : ℕ)
            → (is_probed p pins c t && is_segment_low (e ∷ h) c t) ≡ (is_probed p pins c t && is_segment_low h c t)
        line_leaves l is c t = stays_unless c t (λ g. clash (sym (no_line e.wire (board_of p e.driver) (segment_at c t) g) ∙ line_is p pins h e v s l is))
          where
            clash : None ≡ Some l → ⊥
            clash x = cc

        module _ (q : Pin) (is : v.signal ≡ signal.Pin q) where
          pin_leaves : (l : Line) → line_of e.wire (board_of p e.driver) ≡ Some l → ⊥
          pin_leaves l x = clash (sym (no_line e.wire (board_of p e.driver) (wire_of p q) (segment_is p pins h e v s q is)) ∙ x)
            where
              clash : None ≡ Some l → ⊥
              clash y = cc

          -- its wire has a probe
          pin_probed : is_some (pin_on p pins (wire_of p q)) ≡ true
          pin_probed =
              some_pin (pin_on p pins (wire_of p q))
              (sym (ap (λ (g : Option Segment). option_map (λ x. signal.Pin x) (option_and_then (pin_on p pins) g)) (segment_is p pins h e v s q is))
              ∙ sym (ap (λ (l : Option Line). signal_on p pins l (segment_of e.wire (board_of p e.driver))) (no_line e.wire (board_of p e.driver) (wire_of p q) (segment_is p pins h e v s q is)))
              ∙ signal_is p pins h e v s ∙ ap (λ x. Some x) is)
            where
              some_pin : (o : Option Pin) → option_map (λ x. signal.Pin x) o ≡ Some (signal.Pin q) → is_some o ≡ true
              some_pin None x = absurd (cc)
              some_pin (Some a) x = refl

          turned_at : (c : ChainId) (t : ℕ) → wire_of p q ≡ segment_at c t → is_segment_low (e ∷ h) c t ≡ v.fall
          turned_at c t same =
              turned e.fall (is_segment_low h c t) (is_segment_low (e ∷ h) c t) (up c t) (down c t)
              (subst (λ (g : Segment). differ (segment h g.chain g.place) (segment (e ∷ h) g.chain g.place) ≡ true) same (differs p ok pins h e v s (signal.Pin q) is))
              ∙ way p ok pins h e v s v.fall refl
            where
              up : (c : ChainId) (t : ℕ) → e.fall ≡ true → is_segment_low h c t ≡ true → is_segment_low (e ∷ h) c t ≡ true
              up c zero = drive_grows h e Controller (head_wire c)
              up c (suc x) = drive_grows h e (Slot (suc x)) (out_wire c)

              down : (c : ChainId) (t : ℕ) → e.fall ≡ false → is_segment_low (e ∷ h) c t ≡ true → is_segment_low h c t ≡ true
              down c zero = drive_shrinks h e Controller (head_wire c)
              down c (suc x) = drive_shrinks h e (Slot (suc x)) (out_wire c)

          chain_at : (c : ChainId) (t : ℕ) → (segment_at c t).chain ≡ c
          chain_at c zero = refl
          chain_at c (suc t) = refl

          place_at : (c : ChainId) (t : ℕ) → unwrap_or (segment_at c t).place 0 ≡ t
          place_at c zero = refl
          place_at c (suc t) = refl

          self : (t : ℕ) → (t == t) ≡ true
          self t = grind (arith, nat_tests)

          self_chain : (c : ChainId) → is_same_chain c c ≡ true
          self_chain chain.Bg0 = refl
          self_chain chain.Bg1 = refl
          self_chain chain.Bg2 = refl
          self_chain chain.Bg3 = refl
          self_chain chain.Iack = refl

          same_chain : (a b : ChainId) → is_same_chain a b ≡ true → a ≡ b
          same_chain chain.Bg0 chain.Bg0 x = refl
          same_chain chain.Bg1 chain.Bg1 x = refl
          same_chain chain.Bg2 chain.Bg2 x = refl
          same_chain chain.Bg3 chain.Bg3 x = refl
          same_chain chain.Iack chain.Iack x = refl
          same_chain a b x = absurd (cc)

          pin_levels : (old new : Segments) → SetsWire p q v.fall old new
              → ((c : ChainId) (t : ℕ) → has_segment old c t ≡ (is_probed p pins c t && is_segment_low h c t))
              → (c : ChainId) (t : ℕ) → has_segment new c t ≡ (is_probed p pins c t && is_segment_low (e ∷ h) c t)
          pin_levels old new sets low c t = by_test (is_same_chain c q.chain && (t == place_of_pin q)) refl
            where
              by_test : (b : Bool) → (is_same_chain c q.chain && (t == place_of_pin q)) ≡ b → has_segment new c t ≡ (is_probed p pins c t && is_segment_low (e ∷ h) c t)
              by_test true x =
                  let here : wire_of p q ≡ segment_at c t =
                  wire_at q
                  ∙ ap (λ y. segment_at y (place_of_pin q)) (sym (same_chain c q.chain (and_left (is_same_chain c q.chain) (t == place_of_pin q) x)))
                  ∙ ap (λ y. segment_at c y) (sym (same_number t (place_of_pin q) (and_right (is_same_chain c q.chain) (t == place_of_pin q) x))) in
                  sets c t ∙ ap (λ b. if b then v.fall else has_segment old c t) x
                  ∙ sym (ap (λ b. b && is_segment_low (e ∷ h) c t) (subst (λ g. is_some (pin_on p pins g) ≡ true) here pin_probed) ∙ turned_at c t here)
              by_test false x =
                  sets c t ∙ ap (λ b. if b then v.fall else has_segment old c t) x ∙ low c t ∙ sym (stays_unless c t (λ g. other (sym g ∙ segment_is p pins h e v s q is)))
                where
                  other : Some (segment_at c t) ≡ Some (wire_of p q) → ⊥
                  other y =
                      let z = y ∙ ap (λ g. Some g) (wire_at q) in
                      let ch : c ≡ q.chain = sym (chain_at c t) ∙ chain_is (segment_at c t) (segment_at q.chain (place_of_pin q)) z ∙ chain_at q.chain (place_of_pin q) in
                      let pl : t ≡ place_of_pin q =
                      sym (place_at c t) ∙ ap (λ o. unwrap_or o 0) (place_is (segment_at c t) (segment_at q.chain (place_of_pin q)) z) ∙ place_at q.chain (place_of_pin q) in
                      never (is_same_chain c q.chain && (t == place_of_pin q))
                      (both (is_same_chain c q.chain) (t == place_of_pin q)
                      (subst (λ k. is_same_chain c k ≡ true) ch (self_chain c)) (subst (λ k. (t == k) ≡ true) pl (self t))) x

        -- all levels
        pub levels_behind : (x : Signal) → v.signal ≡ x → (lines newlines : Levels) (low newlow : Segments) → AreLevels p pins h lines low → LinesBehind x v.fall lines newlines
            → LowBehind p x v.fall low newlow
            → AreLevels p pins (e ∷ h) newlines newlow
        levels_behind (signal.Line l) is lines newlines low newlow old a b = record {
          shared = λ k on. by_test k on (is_same_line l k) refl;
          probed = λ c t. ap (λ z. has_segment z c t) b ∙ old.probed c t ∙ sym (line_leaves l is c t);
        }
          where
            by_test : (k : Line) → is_line k ≡ true → (z : Bool) → is_same_line l k ≡ z → is_line_left_low newlines k ≡ is_line_low p (e ∷ h) k
            by_test k on true same =
                subst (λ y. is_line_left_low newlines y ≡ is_line_low p (e ∷ h) y) (line_same l k same) (a.set ∙ sym (seen_turned p ok h e pins v s l is))
            by_test k on false other =
                a.others k (line_other l k other) ∙ old.shared k on ∙ sym (seen_stays p ok h e pins v s l k is (line_other l k other))
        levels_behind (signal.Pin q) is lines newlines low newlow old a b = record {
          shared = λ k on. ap (λ z. is_line_left_low z k) a ∙ old.shared k on ∙ sym (other_stays p ok h e k (pin_leaves q is k));
          probed = pin_levels q is low newlow b old.probed;
        }

      -- an edge that no probe sees leaves all levels
      pub levels_stay : seen p pins h e ≡ None → (lines : Levels) (low : Segments) → AreLevels p pins h lines low → AreLevels p pins (e ∷ h) lines low
      levels_stay none lines low old = record {
        shared = λ k on. old.shared k on ∙ sym (lines_stay p ok h e pins none k);
        probed = λ c t. old.probed c t ∙ sym (segments_stay none c t);
      }
