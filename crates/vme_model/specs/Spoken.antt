-- The text of a condition, for an edge. (Profile.)
use Rattle.std.specs.Prelude.{ℕ, Bool, true, false, not, Option, Some, List, [], ◌++◌, codes, decimal, unwrap_or}
use Rattle.std.specs.Option.{option_map_or, option_and_then}
use Rattle.vme_model.specs.declared.boards.Row.{Row}
use Rattle.vme_model.specs.declared.boards.IrqKind.{IrqKind}
use Rattle.vme_model.specs.declared.boards.IrqKind.TheVariants.{Roak, Rora}
use Rattle.vme_model.specs.declared.conditions.Condition.{Condition}
use Rattle.vme_model.specs.declared.conditions.Condition.TheVariants as condition
use Rattle.vme_model.specs.declared.signals.Driver.{Driver}
use Rattle.vme_model.specs.declared.signals.Driver.TheVariants.{Controller, Slot}
use Rattle.vme_model.specs.declared.signals.Wire.{Wire}
use Rattle.vme_model.specs.declared.signals.Wire.TheVariants.{Addr, Irq, IackOut}
use Rattle.vme_model.specs.declared.signals.Cycle.{Cycle}
use Rattle.vme_model.specs.declared.signals.Cycle.TheVariants.{Acknowledge}
use Rattle.vme_model.specs.declared.signals.Edge.{Edge}
use Rattle.vme_model.specs.Signals.{grant_level}
use Rattle.vme_model.specs.Guards.{fixed_text}
use Rattle.vme_model.specs.Text.{wire_text}

-- the level of an acknowledge; 0 if it is not one
abbrev pub level_of : Option Cycle → ℕ
level_of (Some (Acknowledge level)) = level
level_of _ = 0

-- a driver's name
abbrev pub driver_name : Driver → List ℕ
driver_name Controller = codes "c"
driver_name (Slot s) = decimal s

-- a wire's state
abbrev pub state_text : Wire → Bool → List ℕ
state_text Addr true = codes "on"
state_text Addr false = codes "off"
state_text w true = codes "low"
state_text w false = codes "high"

-- what serves an interrupter (chapter 4)
abbrev pub kind_text : IrqKind → List ℕ
kind_text Roak = codes "the request was served by an acknowledge"
kind_text Rora = codes "the request was served by an access"

abbrev pub service_text : Option Row → List ℕ
service_text board =
    option_map_or (λ i. kind_text i.kind) (option_and_then (λ r. r.interrupter) board) []

-- what drives a wire of a slot
abbrev pub part_text : Wire → List ℕ
part_text Irq = codes "the board has an interrupter"
part_text IackOut = codes "the board has an interrupter"
part_text w = codes "the board has a requester"

abbrev pub board_text : Wire → Option Row → List ℕ
board_text w board = option_map_or (λ r. part_text w) board (codes "the slot has a board")

-- the text for the state that an edge's wire has to be in: the one that the edge ends
abbrev pub moved_text : Edge → List ℕ
moved_text e =
    (((driver_name e.driver ++ codes " ") ++ wire_text e.wire) ++ codes " is ")
    ++ state_text e.wire (not e.fall)

-- the text of a condition for any edge, with N for a level
abbrev pub pattern : Condition → List ℕ
pattern condition.Picked = codes "the arbiter picks level N"
pattern condition.Handled = codes "the board handles level N"
pattern condition.InterruptLow = codes "IRQN* is low"
pattern condition.Pending = codes "pending at level N"
pattern condition.NotPending = codes "not pending at level N"
pattern c = unwrap_or (fixed_text c) []

-- the text of a condition for an edge, by the board in the edge's slot and by what is shown
abbrev pub condition_text : Condition → Edge → Option Row → Option Cycle → List ℕ
condition_text condition.Picked e board shown =
    codes "the arbiter picks level " ++ decimal (grant_level e.wire)
condition_text condition.Handled e board shown =
    codes "the board handles level " ++ decimal (level_of e.value)
condition_text condition.InterruptLow e board shown =
    (codes "IRQ" ++ decimal (level_of e.value)) ++ codes "* is low"
condition_text condition.Pending e board shown =
    codes "pending at level " ++ decimal (level_of shown)
condition_text condition.NotPending e board shown =
    codes "not pending at level " ++ decimal (level_of shown)
condition_text condition.Served e board shown = service_text board
condition_text condition.HasDriver e board shown = board_text e.wire board
condition_text condition.OtherState e board shown = moved_text e
condition_text c e board shown = unwrap_or (fixed_text c) []
