-- An answer that serves the interrupt request of its own board.
use Rattle.std.specs.Prelude.{◌&&◌, Bool, false, Option, List}
use Rattle.std.specs.Option.{option_map_or}
use Rattle.vme_model.specs.declared.boards.Row.{Row}
use Rattle.vme_model.specs.declared.signals.Cycle.{Cycle}
use Rattle.vme_model.specs.declared.signals.Wire.TheVariants.{Irq, Dtack}
use Rattle.vme_model.specs.declared.signals.Edge.{Edge}
use Rattle.vme_model.specs.Signals.{is_fall_of}
use Rattle.vme_model.specs.Plan.{Plan, board_of}
use Rattle.vme_model.specs.History.{shown}
use Rattle.vme_model.specs.GrantSafety.{is_fall_on}
use Rattle.vme_interrupter.specs.Local.{serves_board}

-- an answer while this is shown serves the interrupter of the board
abbrev pub is_serving : Option Row → Option Cycle → Bool
is_serving row cycle = option_map_or (λ r. serves_board r.interrupter cycle) row false

-- the first edge is an answer, the second an `irq-` of the same board, and the answer serves its
-- interrupter: the request is served if it comes first, and otherwise not
abbrev pub serves_request : Plan → List Edge → Edge → Edge → Bool
serves_request p h answer request =
    is_fall_on Dtack answer
    && (is_fall_of answer.driver Irq request && is_serving (board_of p answer.driver) (shown p h))
