-- Whether a board's interrupter has nothing to do.
use Rattle.std.specs.Prelude.{◌&&◌, not, ℕ, Bool, true, List}
use Rattle.std.specs.Option.{option_map_or}
use Rattle.vme_model.specs.declared.signals.Driver.TheVariants.{Slot}
use Rattle.vme_model.specs.declared.signals.Wire.TheVariants.{Irq, IackOut}
use Rattle.vme_model.specs.declared.signals.Edge.{Edge}
use Rattle.vme_model.specs.Plan.{Plan, board}
use Rattle.vme_model.specs.History.{drive}
use Rattle.vme_model.specs.Readings.{iack_in, is_served}

-- an interrupter, if there is one, passes nothing on, no acknowledge has reached it, and it requests
-- and was not served
abbrev pub interrupter_rests : Plan → List Edge → ℕ → Bool
interrupter_rests p h s =
    option_map_or
    (λ r. option_map_or
    (λ i. (not (drive h (Slot s) IackOut) && not (iack_in p h (Slot s)))
    && (drive h (Slot s) Irq && not (is_served p h (Slot s))))
    r.interrupter true)
    (board p s) true
