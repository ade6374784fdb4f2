-- What the sets say of one slot: `BusState::outputs`, `is_driven_low`, `row`, `outcome_by_rule`.
use Rattle.std.proofs.Common.{◌≡◌, ◌⊎◌, inl, inr, ◌∙◌, refl, sym, ap, ℕ, true, false, List, ◌≤◌, arith}
use Rattle.std.specs.Prelude.{Option, Some, None, option_map, is_none, not}
use Rattle.std.specs.Option.{option_map_or}
use Rattle.vme_model.specs.declared.boards.Row.{Row}
use Rattle.vme_model.specs.declared.signals.Version.{Version}
use Rattle.vme_model.specs.declared.signals.Edge.{Edge}
use Rattle.vme_model.specs.declared.signals.Driver.TheVariants.{Slot}
use Rattle.vme_model.specs.declared.signals.Wire.{Wire}
use Rattle.vme_model.specs.declared.signals.Wire.TheVariants.{Bg, Bclr, Iack, Berr}
use Rattle.vme_model.specs.Plan.{Plan, board, drives}
use Rattle.vme_model.specs.Accepted.{IsAccepted}
use Rattle.vme_model.specs.History.{drive}
use Rattle.vme_model.specs.Verdict.{IsLegal}
use Rattle.vme_histories.proofs.AllowedBoards.{stands}
use Rattle.vme_histories.proofs.Drivers.{never_drove}
use Rattle.vme_bus.specs.declared.records.Seat.{Seat}
use Rattle.vme_bus.specs.Layouts.{seat_of}

-- no board drives a wire of the controller's
pub not_a_boards : (version : Version) (p : Plan) (h : List Edge) (s : ℕ) (w : Wire) → IsLegal version p h → ((r : Row) → drives w r ≡ false) → false ≡ drive h (Slot s) w
not_a_boards version p h s w legal lacks = sym (never_drove version p h (Slot s) w legal (by_board (board p s)))
  where
    by_board : (o : Option Row) → option_map_or (drives w) o false ≡ false
    by_board None = refl
    by_board (Some r) = lacks r

pub controllers_wire : (version : Version) (p : Plan) (h : List Edge) (s : ℕ) (w : Wire) → IsLegal version p h → ((n : ℕ) × (w ≡ Bg n)) ⊎ ((w ≡ Bclr) ⊎ ((w ≡ Iack) ⊎ (w ≡ Berr)))
    → false ≡ drive h (Slot s) w
controllers_wire version p h s w legal one = by_wire one
  where
    at : (x : Wire) → w ≡ x → ((r : Row) → drives x r ≡ false) → false ≡ drive h (Slot s) w
    at x e lacks = not_a_boards version p h s x legal lacks ∙ ap (λ y. drive h (Slot s) y) (sym e)

    by_wire : ((n : ℕ) × (w ≡ Bg n)) ⊎ ((w ≡ Bclr) ⊎ ((w ≡ Iack) ⊎ (w ≡ Berr))) → false ≡ drive h (Slot s) w
    by_wire (inl k) = at (Bg k.0) k.1 (λ r. refl)
    by_wire (inr (inl e)) = at Bclr e (λ r. refl)
    by_wire (inr (inr (inl e))) = at Iack e (λ r. refl)
    by_wire (inr (inr (inr e))) = at Berr e (λ r. refl)

-- nor does any beyond the last slot
pub beyond_slots : (version : Version) (p : Plan) (h : List Edge) (s : ℕ) (w : Wire) → IsAccepted p → IsLegal version p h → 22 ≤ s → false ≡ drive h (Slot s) w
beyond_slots version p h s w ok legal far = sym (never_drove version p h (Slot s) w legal (by_board (board p s) refl))
  where
    by_board : (o : Option Row) → board p s ≡ o → option_map_or (drives w) o false ≡ false
    by_board None is = refl
    by_board (Some r) is = let near = (stands p s r ok is).near in absurd (omega arith)

-- a seat is that of the slot's board
pub record IsSeated (p : Plan) (s : ℕ) (x : Seat) : Type 0 where
  pub row : Row
  pub found : board p s ≡ Some row
  pub same : x ≡ seat_of p row

pub seated : (p : Plan) (s : ℕ) (x : Seat) → Some x ≡ option_map (seat_of p) (board p s) → IsSeated p s x
seated p s x here = by_board (board p s) refl here
  where
    by_board : (o : Option Row) → board p s ≡ o → Some x ≡ option_map (seat_of p) o → IsSeated p s x
    by_board None is e = absurd (cc)
    by_board (Some r) is e = record {
      row = r;
      found = is;
      same = cc;
    }

pub unseated : (p : Plan) (o : Option Row) → option_map (seat_of p) o ≡ None → o ≡ None
unseated p None e = refl
unseated p (Some r) e = absurd (cc)

pub none_there : (o : Option Row) → not (option_map_or (λ (r : Row). true) o false) ≡ is_none o
none_there None = refl
none_there (Some r) = refl
