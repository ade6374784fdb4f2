-- Who drives a wire.
use Rattle.std.proofs.Common.{◌≡◌, ◌∙◌, refl, sym, ap, subst, ℕ, Bool, true, false, List, [], ◌∷◌}
use Rattle.std.specs.Prelude.{◌&&◌, if◌then◌else◌, Option, Some, None, Ok}
use Rattle.std.specs.Option.{option_map_or}
use Rattle.vme_model.specs.declared.boards.Row.{Row}
use Rattle.vme_model.specs.declared.signals.Version.{Version}
use Rattle.vme_model.specs.declared.signals.Driver.{Driver}
use Rattle.vme_model.specs.declared.signals.Driver.TheVariants.{Controller, Slot}
use Rattle.vme_model.specs.declared.signals.Wire.{Wire}
use Rattle.vme_model.specs.declared.signals.Edge.{Edge}
use Rattle.vme_model.specs.Signals.{is_same_driver, is_same_wire, is_edge_of}
use Rattle.vme_model.specs.Plan.{Plan, board, has_driver, drives}
use Rattle.vme_model.specs.History.{drive}
use Rattle.vme_model.specs.Verdict.{IsLegal, verdict_but_full}
use Rattle.vme_model.proofs.Bools.{same_number}
use Rattle.vme_model.proofs.AllowedEdges.{all_passed}
use Rattle.vme_histories.proofs.Others.{same_wire}

-- a driver without such a wire never drove it
pub same_driver : (a b : Driver) → is_same_driver a b ≡ true → a ≡ b
same_driver Controller Controller e = refl
same_driver (Slot s) (Slot t) e = ap (λ x. Slot x) (same_number s t e)
same_driver a b e = absurd (cc)

both : (a b : Bool) → (a && b) ≡ true → (a ≡ true) × (b ≡ true)
both true b e = (refl, e)
both false b e = absurd (cc)

pub never_drove : (version : Version) (p : Plan) (h : List Edge) (d : Driver) (w : Wire) → IsLegal version p h → has_driver p d w ≡ false → drive h d w ≡ false
never_drove version p [] d w legal lacks = refl
never_drove version p (e ∷ h) d w legal lacks = by_edge (never_drove version p h d w legal.1 lacks) (is_edge_of d w e) refl
  where
    by_edge : drive h d w ≡ false → (b : Bool) → is_edge_of d w e ≡ b → (if b then e.fall else drive h d w) ≡ false
    by_edge before true is =
        let k = both (is_same_wire e.wire w) (is_same_driver e.driver d) is in
        let has = (all_passed version p h e.driver e.wire e.fall e.value legal.0).exists in
        let here : has_driver p d w ≡ true = subst (λ x. has_driver p x w ≡ true) (same_driver e.driver d k.1) (subst (λ x. has_driver p e.driver x ≡ true) (same_wire e.wire w k.0) has) in
        let bad : false ≡ true = sym lacks ∙ here in cc
    by_edge before false is = before

-- a slot without a board has no wire low
pub own_of_none : (version : Version) (p : Plan) (h : List Edge) (s : ℕ) (w : Wire) → IsLegal version p h → board p s ≡ None → false ≡ drive h (Slot s) w
own_of_none version p h s w legal none = sym (never_drove version p h (Slot s) w legal (ap (λ (o : Option Row). option_map_or (drives w) o false) none))

-- the rules allow no edge of a slot without a board
pub no_board : (version : Version) (p : Plan) (h : List Edge) (s : ℕ) (e : Edge) → verdict_but_full version p h e ≡ Ok tt → e.driver ≡ Slot s → board p s ≡ None → ⊥
no_board version p h s e allowed driver none =
    let passed = all_passed version p h e.driver e.wire e.fall e.value allowed in
    let exists : has_driver p (Slot s) e.wire ≡ true = subst (λ d. has_driver p d e.wire ≡ true) driver passed.exists in
    let bad : false ≡ true = subst (λ (o : Option Row). option_map_or (drives e.wire) o false ≡ true) none exists in cc

-- the board to which an allowed edge of a slot belongs
pub record IsStanding (p : Plan) (s : ℕ) : Type 0 where
  pub row : Row
  pub found : board p s ≡ Some row

pub standing : (version : Version) (p : Plan) (h : List Edge) (s : ℕ) (e : Edge) → verdict_but_full version p h e ≡ Ok tt → e.driver ≡ Slot s → IsStanding p s
standing version p h s e allowed driver = by_board (board p s) refl
  where
    by_board : (o : Option Row) → board p s ≡ o → IsStanding p s
    by_board None is = absurd (no_board version p h s e allowed driver is)
    by_board (Some r) is = record { row = r; found = is }
