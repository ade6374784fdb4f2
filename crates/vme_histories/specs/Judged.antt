-- What a state of the bus is asked, in whatever form it is kept.
use Rattle.std.specs.Prelude.{◌&&◌, not, Bool, List}
use Rattle.std.specs.List.{list_all}
use Rattle.vme_model.specs.declared.signals.Version.{Version}
use Rattle.vme_model.specs.declared.signals.Driver.TheVariants.{Controller}
use Rattle.vme_model.specs.declared.signals.Wire.TheVariants.{Bg, Bbsy}
use Rattle.vme_model.specs.declared.signals.Edge.{Edge}
use Rattle.vme_model.specs.Plan.{Plan}
use Rattle.vme_model.specs.History.{drive, line}
use Rattle.vme_model.specs.Rules.{bus_numbers}

-- what holds for each history that leads to a state
abbrev pub OfState : {S : Type 0} → (Version → Plan → List Edge → S → Type 0) → S
    → (Version → Plan → List Edge → Type 0) → Type 0
OfState {S} is_of state P =
    (version : Version) (p : Plan) (h : List Edge) → is_of version p h state → P version p h

-- the grants are high, and the bus is free
abbrev pub may_grant : Plan → List Edge → Bool
may_grant p h = list_all (λ n. not (drive h Controller (Bg n))) bus_numbers && not (line p h Bbsy)
