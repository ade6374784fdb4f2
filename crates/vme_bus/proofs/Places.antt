-- One place of a set moves: `BusState::note_board`, `note_controller`.
use Rattle.std.proofs.Common.{◌≡◌, ◌∙◌, refl, sym, ap, subst, ℕ, Bool, true, false}
use Rattle.std.specs.Prelude.{◌==◌, if◌then◌else◌}
use Rattle.vme_model.proofs.Bools.{same_number}
use Rattle.vme_bus.specs.declared.sets.SlotSet.{SlotSet}
use Rattle.vme_bus.specs.Sets.{has}
use Rattle.vme_bus.specs.Moves.{MovesPlace}

-- what a set says of a place after the move
pub moved_to : (f : Bool → Bool) (place s : ℕ) (old new : SlotSet) (g after : ℕ → Bool) → MovesPlace f place old new → has old s ≡ g s → f (g place) ≡ after place
    → ((place == s) ≡ false → after s ≡ g s) → has new s ≡ after s
moved_to f place s old new g after moves held here there = moves s ∙ by_place (place == s) refl
  where
    by_place : (b : Bool) → (place == s) ≡ b → (if b then f (has old s) else has old s) ≡ after s
    by_place true is = ap f held ∙ subst (λ x. f (g x) ≡ after x) (same_number place s is) here
    by_place false is = held ∙ sym (there is)

pub unmoved : (f : Bool → Bool) (place s : ℕ) (old new : SlotSet) → MovesPlace f place old new → (place == s) ≡ false → has new s ≡ has old s
unmoved f place s old new moves other = moves s ∙ ap (λ b. if b then f (has old s) else has old s) other
