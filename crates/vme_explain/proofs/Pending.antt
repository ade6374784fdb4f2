-- Whether a board's interrupter is pending, by its wire and by what served it.
use Rattle.std.proofs.Common.{◌≡◌, ◌∙◌, Bool, true, false, List, Option, Some, None, refl, sym, ap, arith}
use Rattle.std.specs.Prelude.{◌&&◌, ◌==◌, not, is_some}
use Rattle.std.specs.Option.{option_map_or, option_and_then}
use Rattle.std.proofs.lemmas.Bool.Decides.{nat_tests}
use Rattle.vme_model.specs.declared.boards.Row.{Row}
use Rattle.vme_model.specs.declared.boards.InterrupterRow.{InterrupterRow}
use Rattle.vme_model.specs.declared.signals.Driver.{Driver}
use Rattle.vme_model.specs.declared.signals.Wire.TheVariants.{Irq}
use Rattle.vme_model.specs.declared.signals.Edge.{Edge}
use Rattle.vme_model.specs.Plan.{Plan, board_of}
use Rattle.vme_model.specs.History.{drive, served_since_request}
use Rattle.vme_model.specs.Readings.{is_pending, readings}
use Rattle.vme_model.specs.Numbered.{Numbered, edges_in, served_since}
use Rattle.vme_model.proofs.Numbers.{served_has_since}

part_of : (o : Option Row) (served : InterrupterRow → Bool) → option_map_or (λ r. option_map_or served r.interrupter false) o false
    ≡ option_map_or served (option_and_then (λ r. r.interrupter) o) false
part_of None served = refl
part_of (Some r) served = refl

level_is : (i : InterrupterRow) → (i.level == i.level) ≡ true
level_is i = grind (arith, nat_tests)

pending_is : (o : Option Row) (i : InterrupterRow) (served : InterrupterRow → Bool) → option_and_then (λ r. r.interrupter) o ≡ Some i
    → (option_map_or (λ j. j.level == i.level) (option_and_then (λ r. r.interrupter) o) false && true && not (option_map_or (λ r. option_map_or served r.interrupter false) o false)) ≡ not (served i)
pending_is o i served is =
    ap (λ b. option_map_or (λ j. j.level == i.level) (option_and_then (λ r. r.interrupter) o) false && true && not b) (part_of o served)
    ∙ ap (λ p. option_map_or (λ j. j.level == i.level) p false && true && not (option_map_or served p false)) is
    ∙ ap (λ b. b && true && not (served i)) (level_is i)

-- with its request low, unless it was served
pub pending_unless_served : (p : Plan) (h : List Edge) (d : Driver) (i : InterrupterRow) (k : Numbered) (none : Bool) → option_and_then (λ r. r.interrupter) (board_of p d) ≡ Some i → edges_in k ≡ h
    → drive h d Irq ≡ true → is_some (served_since p k d i.kind) ≡ not none → none ≡ is_pending (readings p h d) i.level
pending_unless_served p h d i k none is same low served =
    turned none (served_since_request p h d i.kind) (sym (ap (λ l. served_since_request p l d i.kind) (sym same) ∙ sym (served_has_since p k d i.kind) ∙ served))
    ∙ sym (pending_is (board_of p d) i (λ j. served_since_request p h d j.kind) is)
    ∙ ap (λ b. option_map_or (λ j. j.level == i.level) (option_and_then (λ r. r.interrupter) (board_of p d)) false && b
    && not (option_map_or (λ r. option_map_or (λ j. served_since_request p h d j.kind) r.interrupter false) (board_of p d) false)) (sym low)
  where
    turned : (a b : Bool) → not a ≡ b → a ≡ not b
    turned true b e = ap not e
    turned false b e = ap not e
