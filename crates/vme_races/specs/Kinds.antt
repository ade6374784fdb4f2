-- The bus before an edge, by what of it is kept.
use Rattle.std.specs.Prelude.{◌≡◌, List}
use Rattle.vme_model.specs.declared.signals.Version.{Version}
use Rattle.vme_model.specs.declared.signals.Edge.{Edge}
use Rattle.vme_model.specs.Plan.{Plan}
use Rattle.vme_bus.specs.declared.kinds.BusKind.{BusKind}
use Rattle.vme_bus.specs.declared.states.BusState.{BusState}
use Rattle.vme_bus.specs.Kinds.{kind_of}
use Rattle.vme_bus.specs.States.{IsStateOf}

-- a state of the plan and the version, whatever its edges are
abbrev pub IsOnPlan : Version → Plan → BusState → Type 0
IsOnPlan v p b = (h : List Edge) × IsStateOf v p h b

-- the edges lead to a state of this kind
abbrev pub IsKindOf : Version → Plan → List Edge → BusKind → Type 0
IsKindOf v p h kind = (b : BusState) × IsStateOf v p h b × (kind_of b ≡ kind)

-- what holds of all edges that lead to this kind, on the plan of a state
abbrev pub OfKind : BusState → BusKind → (Version → Plan → List Edge → Type 0) → Type 0
OfKind b kind P =
    (v : Version) (p : Plan) (h : List Edge) → IsOnPlan v p b → IsKindOf v p h kind → P v p h
