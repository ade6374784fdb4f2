-- Parts of what is printed.
use Rattle.std.specs.Prelude.{◌&&◌, if◌then◌else◌, ℕ, Bool, true, false, Option, Some, None, List, option_map}
use Rattle.std.specs.Option.{option_map_or, option_to_list}
use Rattle.vme_model.specs.declared.signals.Cycle.{Cycle}
use Rattle.vme_model.specs.declared.signals.Driver.{Driver}
use Rattle.vme_model.specs.declared.signals.Driver.TheVariants.{Controller, Slot}
use Rattle.vme_model.specs.declared.signals.Wire.{Wire}
use Rattle.vme_model.specs.declared.signals.Wire.TheVariants.{Addr, Irq}
use Rattle.vme_model.specs.declared.witnesses.Witness.{Witness}
use Rattle.vme_model.specs.Signals.{is_slot}
use Rattle.vme_model.specs.Plan.{board_of, interrupts_on}
use Rattle.vme_model.specs.History.{drive}
use Rattle.vme_model.specs.Verdict.{State}
use Rattle.vme_model.specs.Numbered.{Numbered}
use Rattle.vme_model.specs.Witnesses.{interrupter_of, wire_at}

-- what an address group that is on shows
abbrev pub value_shown : Wire → Bool → Option Cycle → Option Cycle
value_shown Addr on v = if on then v else None
value_shown w on v = None

-- a driver that some backplane can have
abbrev pub is_driver : Driver → Bool
is_driver Controller = true
is_driver (Slot s) = is_slot s

-- the driver's interrupter asks for that level
abbrev pub asks_at : State → ℕ → Driver → Bool
asks_at b level d =
    option_map_or (interrupts_on level) (board_of b.plan d) false && drive b.history d Irq

-- the board's request and its level
abbrev pub request_witness : State → Numbered → Driver → List Witness
request_witness b k d =
    option_to_list (option_map (λ i. wire_at b k d Irq (Some i.level)) (interrupter_of b d))
