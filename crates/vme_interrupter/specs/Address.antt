-- What is shown, as far as it concerns the board.
use Rattle.std.specs.Prelude.{◌==◌, ◌&&◌, Bool, false, not, Option, Some}
use Rattle.std.specs.Option.{option_map_or}
use Rattle.vme_model.specs.declared.signals.Cycle.{Cycle}
use Rattle.vme_model.specs.declared.signals.Cycle.TheVariants.{Acknowledge, Access}
use Rattle.vme_interrupter.specs.Local.{InterrupterState}

-- by the state, the interrupter is pending at the level of the acknowledge that is shown
abbrev pub asks_at : InterrupterState → Option Cycle → Bool
asks_at i (Some (Acknowledge level)) =
    option_map_or (λ r. r.level == level) i.row false && i.irq && not i.is_served
asks_at i _ = false

-- an access to the board's slot is shown
abbrev pub is_accessed : InterrupterState → Option Cycle → Bool
is_accessed i (Some (Access s)) = i.slot == s
is_accessed i _ = false
