-- The wiring after an edge is that of the longer history.
use Rattle.std.proofs.Common.{◌≡◌, ◌∙◌, refl, sym, ap, subst, ℕ, zero, suc, Bool, true, false, List, [], ◌∷◌, ◌<◌, length, arith}
use Rattle.std.specs.Prelude.{◌==◌, Option, Some, None, Ok, option_map, set}
use Rattle.std.specs.List.{slice_get}
use Rattle.std.specs.Option.{option_and_then}
use Rattle.std.proofs.lemmas.Bool.Decides.{nat_tests}
use Rattle.std.proofs.lemmas.List.{length-set}
use Rattle.vme_model.specs.declared.boards.Row.{Row}
use Rattle.vme_model.specs.declared.boards.ArbiterKind.{ArbiterKind}
use Rattle.vme_model.specs.declared.pins.Pins.{Pins}
use Rattle.vme_model.specs.declared.signals.Version.{Version}
use Rattle.vme_model.specs.declared.signals.Driver.{Driver}
use Rattle.vme_model.specs.declared.signals.Driver.TheVariants.{Controller, Slot}
use Rattle.vme_model.specs.declared.signals.Wire.{Wire}
use Rattle.vme_model.specs.declared.signals.Wire.TheVariants.{Bg, Bclr, Iack, Berr, Addr}
use Rattle.vme_model.specs.declared.signals.Cycle.{Cycle}
use Rattle.vme_model.specs.declared.signals.Edge.{Edge}
use Rattle.vme_model.specs.Signals.{has_wire, is_same_driver}
use Rattle.vme_model.specs.Plan.{Plan, board}
use Rattle.vme_model.specs.Accepted.{IsAccepted}
use Rattle.vme_model.specs.History.{addressing}
use Rattle.vme_model.specs.Verdict.{verdict_but_full}
use Rattle.vme_model.proofs.AllowedEdges.{all_passed}
use Rattle.vme_arbiter.specs.declared.policies.AnyPolicy.{AnyPolicy}
use Rattle.vme_arbiter.specs.Local.{ControllerState, controller_of}
use Rattle.vme_wiring.specs.Boards.{parts_of, place}
use Rattle.vme_wiring.specs.Counts.{IsLines, lines_after, shared_after, shared_after_controller, is_movable, count_of}
use Rattle.vme_histories.specs.Shown.{addressing_after}
use Rattle.vme_wiring.specs.Chained.{after_board, after_controller, CanMove, CanMoveHead}
use Rattle.vme_wiring.specs.Wired.{IsWiringOf}
use Rattle.vme_wiring.specs.declared.boards.Board.{Board}
use Rattle.vme_wiring.specs.declared.wirings.Wiring.{Wiring}
use Rattle.vme_wiring.proofs.Parts.{part}
use Rattle.vme_wiring.proofs.Others.{parts_same}
use Rattle.vme_histories.proofs.AllowedBoards.{Stands, IsDriven, stands, driven, at, at_head, flipped, level_kept}
use Rattle.vme_histories.proofs.Others.{drive_same}
use Rattle.vme_histories.proofs.Addressing.{addressing_by, addressing_kept, shown_at}
use Rattle.vme_wiring.proofs.LineNotes.{counted, uncounted, shared_by_board, shared_by_controller}
use Rattle.vme_wiring.proofs.ChainNotes.{chained, can_move, chained_head, can_move_head}

-- one place of the boards is written
set_here : {A : Type 0} (xs : List A) (s : ℕ) (x : A) → s < length xs → slice_get (set xs s x) s ≡ Some x
set_here {A} [] s x l = absurd (omega arith)
set_here {A} (y ∷ xs) zero x l = refl
set_here {A} (y ∷ xs) (suc s) x l = set_here xs s x (omega arith)

set_there : {A : Type 0} (xs : List A) (s t : ℕ) (x : A) → (t == s) ≡ false → slice_get (set xs s x) t ≡ slice_get xs t
set_there {A} [] s t x e = refl
set_there {A} (y ∷ xs) zero zero x e = absurd (grind (arith, nat_tests))
set_there {A} (y ∷ xs) zero (suc t) x e = refl
set_there {A} (y ∷ xs) (suc s) zero x e = refl
set_there {A} (y ∷ xs) (suc s) (suc t) x e = set_there xs s t x (grind (arith, nat_tests))

abbrev IsBoards : Version → Plan → List Edge → List (Option Board) → Type 0
IsBoards version p h boards = (s : ℕ) → place boards s ≡ option_map (parts_of version p h) (board p s)

pub none_placed : {X A : Type 0} (f : X → A) (o : Option X) → option_map f o ≡ None → o ≡ None
none_placed {X} {A} f None e = refl
none_placed {X} {A} f (Some x) e = absurd (cc)

-- an edge whose driver is known
by_driver : (P : Edge → Type 0) (e : Edge) (d : Driver) → e.driver ≡ d → P (record e { driver = d }) → P e
by_driver P e d driver known = subst (λ x. P (record e { driver = x })) (sym driver) known

with_driver : (P : Edge → Type 0) (e : Edge) (d : Driver) → e.driver ≡ d → P e → P (record e { driver = d })
with_driver P e d driver known = subst (λ x. P (record e { driver = x })) driver known

-- a board's edge leaves the controller's part unchanged
controller_kept : (kind : ArbiterKind) (version : Version) (h : List Edge) (s : ℕ) (w : Wire) (fall : Bool) (v : Option Cycle) → has_wire (Slot s) w ≡ true →
    controller_of kind version h ≡ controller_of kind version (at s w fall v ∷ h)
controller_kept kind version h s w fall v has =
    let low = λ (x : Wire). drive_same h (at s w fall v) Controller x refl in
    rw (low (Bg 0), low (Bg 1), low (Bg 2), low (Bg 3), low Bclr, low Iack, low Berr, sym (level_kept h s w fall v has))

module _ (version : Version) (p : Plan) (h : List Edge) where
  -- boards of other slots
  other_board : (e : Edge) (o : Option Row) → ((r : Row) → o ≡ Some r → is_same_driver e.driver (Slot r.slot) ≡ false) →
      option_map (parts_of version p h) o ≡ option_map (parts_of version p (e ∷ h)) o
  other_board e None others = refl
  other_board e (Some r) others = ap (λ (b : Board). Some b) (sym (parts_same version p h e r (others r refl)))

  boards_after : (s : ℕ) (r : Row) (e : Edge) (boards : List (Option Board)) → IsAccepted p → Stands p s r → e.driver ≡ Slot s → length boards ≡ 22 → IsBoards version p h boards →
      IsBoards version p (e ∷ h) (set boards s (Some (parts_of version p (e ∷ h) r)))
  boards_after s r e boards ok k driver room old t = by_slot (t == s) refl
    where
      by_slot : (b : Bool) → (t == s) ≡ b →
          place (set boards s (Some (parts_of version p (e ∷ h) r))) t ≡ option_map (parts_of version p (e ∷ h)) (board p t)
      by_slot true is =
          let same : s ≡ t = grind (arith, nat_tests) in
          let near = k.near in
          let P : ℕ → Type 0 = λ x. place (set boards s (Some (parts_of version p (e ∷ h) r))) x ≡ option_map (parts_of version p (e ∷ h)) (board p x) in
          subst P same (
          ap (option_and_then (λ b. b)) (set_here boards s (Some (parts_of version p (e ∷ h) r)) (omega arith))
          ∙ ap (option_map (parts_of version p (e ∷ h))) (sym k.found))
      by_slot false is =
          ap (option_and_then (λ b. b)) (set_there boards s t (Some (parts_of version p (e ∷ h) r)) is)
          ∙ old t
          ∙ other_board e (board p t) (λ q found. rw (driver, (stands p t q ok found).slot) (flipped t s is))

  boards_kept : (w : Wire) (fall : Bool) (v : Option Cycle) (boards : List (Option Board)) → IsBoards version p h boards →
      IsBoards version p (at_head w fall v ∷ h) boards
  boards_kept w fall v boards old t = old t ∙ other_board (at_head w fall v) (board p t) (λ r found. refl)

  -- what an edge of a board leaves unchanged
  pub record IsNotedByBoard (s : ℕ) (r : Row) (e : Edge) (old new : Wiring) : Type 0 where
    pub rules : new.version ≡ old.version
    pub slots : new.slots ≡ old.slots
    pub boards : new.boards ≡ set old.boards s (Some (parts_of version p (e ∷ h) r))
    pub arbiter : new.arbiter ≡ old.arbiter
    pub lines : new.lines ≡ lines_after old.lines r e.wire e.fall
    pub chains : new.chains ≡ after_board r e.wire e.fall old.chains
    pub shared : new.shared ≡ shared_after old.shared new.lines e.wire e.value
    pub addressing : new.addressing ≡ addressing_after old.addressing s e.wire e.fall

  board_noted : (s : ℕ) (r : Row) (w : Wire) (fall : Bool) (v : Option Cycle) (old new : Wiring) → IsWiringOf version p h old →
      verdict_but_full version p h (at s w fall v) ≡ Ok tt → board p s ≡ Some r → IsNotedByBoard s r (at s w fall v) old new →
      IsWiringOf version p (at s w fall v ∷ h) new
  board_noted s r w fall v old new is allowed found n =
      let e = at s w fall v in
      let k = stands p s r is.accepted found in
      let d = driven version p h s r w fall v found allowed in
      let lines = subst (IsLines p (e ∷ h)) (sym n.lines) (counted p h s r w fall v old.lines is.accepted k d is.lines).lines in
      let shows = λ (on : w ≡ Addr). shown_at version p h s r w fall v is.accepted is.legal allowed k d on in
      record {
        accepted = is.accepted;
        legal = (allowed, is.legal);
        rules = n.rules ∙ is.rules;
        slots = n.slots ∙ is.slots;
        room = ap length n.boards ∙ length-set old.boards s (Some (parts_of version p (e ∷ h) r)) ∙ is.room;
        boards = subst (IsBoards version p (e ∷ h)) (sym n.boards) (boards_after s r e old.boards is.accepted k refl is.room is.boards);
        arbiter = n.arbiter ∙ is.arbiter ∙ ap (λ (c : ControllerState). (record { kind = p.arbiter }, c)) (controller_kept p.arbiter version h s w fall v d.wire);
        lines = lines;
        chains = n.chains ∙ ap (after_board r w fall) is.chains ∙ sym (chained p h s r w fall v k d);
        shared = n.shared ∙ ap (λ (x : Pins). shared_after x new.lines w v) is.shared ∙ shared_by_board p h s w fall v new.lines d.wire lines (λ on. (shows on).shown);
        addressing = n.addressing ∙ ap (λ o. addressing_after o s w fall) is.addressing ∙ addressing_by p h s w fall v d.wire (λ on. (shows on).addressing);
      }

  pub noted_by_board : (s : ℕ) (r : Row) (e : Edge) (old new : Wiring) → IsWiringOf version p h old → verdict_but_full version p h e ≡ Ok tt → e.driver ≡ Slot s →
      board p s ≡ Some r → IsNotedByBoard s r e old new → IsWiringOf version p (e ∷ h) new
  noted_by_board s r e old new is allowed driver found n =
      let P : Edge → Type 0 = λ x. verdict_but_full version p h x ≡ Ok tt → IsNotedByBoard s r x old new → IsWiringOf version p (x ∷ h) new in
      by_driver P e (Slot s) driver (λ a m. board_noted s r e.wire e.fall e.value old new is a found m) allowed n

  -- what an edge of the controller leaves unchanged
  pub record IsNotedByController (e : Edge) (old new : Wiring) : Type 0 where
    pub rules : new.version ≡ old.version
    pub slots : new.slots ≡ old.slots
    pub boards : new.boards ≡ old.boards
    pub policy : new.arbiter.0 ≡ old.arbiter.0
    pub arbiter : old.arbiter.1 ≡ controller_of p.arbiter version h → new.arbiter.1 ≡ controller_of p.arbiter version (e ∷ h)
    pub lines : new.lines ≡ old.lines
    pub chains : new.chains ≡ after_controller e.wire e.fall old.chains
    pub shared : new.shared ≡ shared_after_controller old.shared e.wire e.fall
    pub addressing : new.addressing ≡ old.addressing

  controller_noted : (w : Wire) (fall : Bool) (v : Option Cycle) (old new : Wiring) → IsWiringOf version p h old →
      verdict_but_full version p h (at_head w fall v) ≡ Ok tt → IsNotedByController (at_head w fall v) old new →
      IsWiringOf version p (at_head w fall v ∷ h) new
  controller_noted w fall v old new is allowed n =
      let e = at_head w fall v in
      let has = (all_passed version p h Controller w fall v allowed).wire in
      let policy = n.policy ∙ ap (λ a. a.0) is.arbiter in
      let state = n.arbiter (ap (λ a. a.1) is.arbiter) in
      record {
        accepted = is.accepted;
        legal = (allowed, is.legal);
        rules = n.rules ∙ is.rules;
        slots = n.slots ∙ is.slots;
        room = ap length n.boards ∙ is.room;
        boards = subst (IsBoards version p (e ∷ h)) (sym n.boards) (boards_kept w fall v old.boards is.boards);
        arbiter = ap (λ (a : AnyPolicy). (a, new.arbiter.1)) policy ∙ ap (λ (c : ControllerState). (record { kind = p.arbiter }, c)) state;
        lines = subst (IsLines p (e ∷ h)) (sym n.lines) (uncounted p h w fall v old.lines has is.lines);
        chains = n.chains ∙ ap (after_controller w fall) is.chains ∙ sym (chained_head p h w fall v has);
        shared = n.shared ∙ ap (λ (x : Pins). shared_after_controller x w fall) is.shared ∙ shared_by_controller p h w fall v has;
        addressing = n.addressing ∙ is.addressing ∙ addressing_kept p h w fall v has;
      }

  pub noted_by_controller : (e : Edge) (old new : Wiring) → IsWiringOf version p h old → verdict_but_full version p h e ≡ Ok tt → e.driver ≡ Controller →
      IsNotedByController e old new → IsWiringOf version p (e ∷ h) new
  noted_by_controller e old new is allowed driver n =
      let P : Edge → Type 0 = λ x. verdict_but_full version p h x ≡ Ok tt → IsNotedByController x old new → IsWiringOf version p (x ∷ h) new in
      by_driver P e Controller driver (λ a m. controller_noted e.wire e.fall e.value old new is a m) allowed n

  -- the line's count and the chain's segment can move
  driven_here : (s : ℕ) (r : Row) (e : Edge) → verdict_but_full version p h e ≡ Ok tt → e.driver ≡ Slot s → board p s ≡ Some r → IsDriven p h s r e.wire e.fall e.value
  driven_here s r e allowed driver found =
      driven version p h s r e.wire e.fall e.value found (with_driver (λ x. verdict_but_full version p h x ≡ Ok tt) e (Slot s) driver allowed)

  pub line_can : (s : ℕ) (r : Row) (e : Edge) (w : Wiring) → IsWiringOf version p h w → verdict_but_full version p h e ≡ Ok tt → e.driver ≡ Slot s →
      board p s ≡ Some r → is_movable (count_of w.lines r e.wire) e.fall ≡ true
  line_can s r e w is allowed driver found =
      (counted p h s r e.wire e.fall e.value w.lines is.accepted (stands p s r is.accepted found) (driven_here s r e allowed driver found) is.lines).can

  pub chain_can : (s : ℕ) (r : Row) (e : Edge) (w : Wiring) → IsWiringOf version p h w → verdict_but_full version p h e ≡ Ok tt → e.driver ≡ Slot s →
      board p s ≡ Some r → CanMove r e.wire e.fall w.chains
  chain_can s r e w is allowed driver found =
      subst (CanMove r e.wire e.fall) (sym is.chains)
      (can_move p h s r e.wire e.fall e.value (stands p s r is.accepted found) (driven_here s r e allowed driver found))

  pub head_can : (e : Edge) (w : Wiring) → IsWiringOf version p h w → verdict_but_full version p h e ≡ Ok tt → e.driver ≡ Controller → CanMoveHead e.wire e.fall w.chains
  head_can e w is allowed driver =
      let passed = all_passed version p h Controller e.wire e.fall e.value (with_driver (λ x. verdict_but_full version p h x ≡ Ok tt) e Controller driver allowed) in
      subst (CanMoveHead e.wire e.fall) (sym is.chains) (can_move_head p h e.wire e.fall passed.wire passed.before)

  -- the board in a place
  pub record IsPlaced (s : ℕ) (b : Board) : Type 0 where
    pub row : Row
    pub found : board p s ≡ Some row
    pub is : b ≡ parts_of version p h row
    pub same_row : b.row ≡ row
    pub stands : Stands p s row

  pub placed_board : (s : ℕ) (b : Board) (w : Wiring) → IsWiringOf version p h w → Some b ≡ place w.boards s → IsPlaced s b
  placed_board s b w is here =
      let k = part (parts_of version p h) (board p s) b (here ∙ is.boards s) in
      record {
        row = k.of;
        found = k.is_row;
        is = k.is_part;
        same_row = ap (λ (x : Board). x.row) k.is_part;
        stands = stands p s k.of is.accepted k.is_row;
      }
