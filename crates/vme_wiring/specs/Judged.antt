-- What a state of the bus is asked, in whatever form it is kept.
use Rattle.std.specs.Prelude.{◌&&◌, not, ℕ, Bool, true, List}
use Rattle.std.specs.List.{list_all}
use Rattle.std.specs.Option.{option_map_or}
use Rattle.vme_model.specs.declared.signals.Version.{Version}
use Rattle.vme_model.specs.declared.signals.Driver.TheVariants.{Controller, Slot}
use Rattle.vme_model.specs.declared.signals.Wire.TheVariants.{Bg, Bbsy}
use Rattle.vme_model.specs.declared.signals.Edge.{Edge}
use Rattle.vme_model.specs.Plan.{Plan, board}
use Rattle.vme_model.specs.History.{drive, line}
use Rattle.vme_model.specs.Readings.{readings}
use Rattle.vme_model.specs.Rules.{bus_numbers}
use Rattle.vme_wiring.specs.Waits.{waits_for_grant, waits_for_bus, waits_for_cycle, is_unserved}

-- what holds for each history that leads to a state
abbrev pub OfState : {S : Type 0} → (Version → Plan → List Edge → S → Type 0) → S
    → (Version → Plan → List Edge → Type 0) → Type 0
OfState {S} is_of state P =
    (version : Version) (p : Plan) (h : List Edge) → is_of version p h state → P version p h

-- the grants are high, and the bus is free
abbrev pub may_grant : Plan → List Edge → Bool
may_grant p h = list_all (λ n. not (drive h Controller (Bg n))) bus_numbers && not (line p h Bbsy)

-- the parts of a slot's board wait, or there is no board
abbrev pub requester_waits : Version → Plan → List Edge → ℕ → Bool
requester_waits version p h s =
    option_map_or (waits_for_grant version (readings p h (Slot s))) (board p s) true

abbrev pub master_waits : Plan → List Edge → ℕ → Bool
master_waits p h s = option_map_or (λ r. waits_for_bus (readings p h (Slot s))) (board p s) true

abbrev pub interrupter_waits : Plan → List Edge → ℕ → Bool
interrupter_waits p h s =
    option_map_or
    (λ r. waits_for_cycle (readings p h (Slot s)) r && is_unserved (readings p h (Slot s)) r)
    (board p s) true
