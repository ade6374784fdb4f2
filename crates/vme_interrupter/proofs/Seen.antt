-- A history that is noted edge by edge.
use Rattle.std.proofs.Common.{◌≡◌, refl, sym, subst, ap, Bool, true, false, List, [], ◌∷◌}
use Rattle.std.specs.Prelude.{◌&&◌, ◌||◌, if◌then◌else◌, Option, Some, None}
use Rattle.std.specs.Option.{option_map_or}
use Rattle.vme_model.specs.declared.boards.Row.{Row}
use Rattle.vme_model.specs.declared.boards.InterrupterRow.{InterrupterRow}
use Rattle.vme_model.specs.declared.signals.Driver.{Driver}
use Rattle.vme_model.specs.declared.signals.Wire.TheVariants.{Irq, Dtack}
use Rattle.vme_model.specs.declared.signals.Edge.{Edge}
use Rattle.vme_model.specs.Signals.{is_fall_of}
use Rattle.vme_model.specs.Plan.{Plan, board_of}
use Rattle.vme_model.specs.History.{serves, shown, served_since_request}
use Rattle.vme_model.specs.Readings.{is_served}
use Rattle.vme_interrupter.specs.Local.{edges, served, seen}

pub edges_seen : (p : Plan) (h : List Edge) → edges (seen p h) ≡ h
edges_seen p [] = refl
edges_seen p (e ∷ h) = ap (λ t. e ∷ t) (edges_seen p h)

no_answer : (irq dtack rest : Bool) → rest ≡ false → (if irq then false else (dtack && false) || rest) ≡ false
no_answer true dtack rest none = refl
no_answer false true rest none = none
no_answer false false rest none = none

-- without an interrupter nothing is served
none_served : (p : Plan) (h : List Edge) (d : Driver) → served (seen p h) d None ≡ false
none_served p [] d = refl
none_served p (e ∷ h) d = no_answer (is_fall_of d Irq e) (is_fall_of d Dtack e) (served (seen p h) d None) (none_served p h d)

-- with an interrupter
some_served : (p : Plan) (h : List Edge) (d : Driver) (i : InterrupterRow) → served (seen p h) d (Some i) ≡ served_since_request p h d i.kind
some_served p [] d i = refl
some_served p (e ∷ h) d i =
    ap (λ t. if is_fall_of d Irq e then false else (is_fall_of d Dtack e && serves i.kind (shown p h)) || t) (some_served p h d i)

by_row : (p : Plan) (h : List Edge) (d : Driver) (row : Option InterrupterRow) →
    served (seen p h) d row ≡ option_map_or (λ i. served_since_request p h d i.kind) row false
by_row p h d None = none_served p h d
by_row p h d (Some i) = some_served p h d i

pub served_seen : (p : Plan) (h : List Edge) (d : Driver) (row : Row) → board_of p d ≡ Some row → served (seen p h) d row.interrupter ≡ is_served p h d
served_seen p h d row board =
    let P : Option Row → Type 0 = λ b. served (seen p h) d row.interrupter ≡ option_map_or (λ r. option_map_or (λ i. served_since_request p h d i.kind) r.interrupter false) b false in
    subst P (sym board) (by_row p h d row.interrupter)
