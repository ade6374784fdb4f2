-- Who drives the strobes and answers a cycle, and when a set says so. (Chapter 2.)
use Rattle.std.specs.Prelude.{◌≡◌, ℕ, Bool, true, false, List}
use Rattle.std.specs.Option.{option_map_or}
use Rattle.vme_model.specs.declared.boards.Row.{Row}
use Rattle.vme_model.specs.declared.signals.Driver.TheVariants.{Slot}
use Rattle.vme_model.specs.declared.signals.Wire.{Wire}
use Rattle.vme_model.specs.declared.signals.Cycle.{Cycle}
use Rattle.vme_model.specs.declared.signals.Cycle.TheVariants.{Acknowledge, Access}
use Rattle.vme_model.specs.declared.signals.Edge.{Edge}
use Rattle.vme_model.specs.Sets.{has_level}
use Rattle.vme_model.specs.Plan.{Plan, board}
use Rattle.vme_model.specs.History.{drive}
use Rattle.vme_bus.specs.declared.sets.SlotSet.{SlotSet}
use Rattle.vme_bus.specs.Sets.{has}

-- the set holds each slot whose wire is low
abbrev pub CoversDrivers : List Edge → Wire → SlotSet → Type 0
CoversDrivers h w set = (s : ℕ) → drive h (Slot s) w ≡ true → has set s ≡ true

-- the board may show the cycle: an acknowledge if it handles that level
abbrev pub may_show : Cycle → Row → Bool
may_show (Acknowledge level) r = has_level r.handler level
may_show (Access s) r = true

-- a board in the slot may show it
abbrev pub may_show_at : Cycle → Plan → ℕ → Bool
may_show_at v p s = option_map_or (may_show v) (board p s) false
