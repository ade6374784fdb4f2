-- How it is written that a goal never comes. (Profile.)
use Rattle.std.specs.Prelude.{◌++◌, ℕ, Option, Some, None, List, codes, decimal}
use Rattle.vme_model.specs.declared.boards.IrqKind.TheVariants.{Roak, Rora}
use Rattle.vme_model.specs.declared.signals.Driver.{Driver}
use Rattle.vme_model.specs.declared.signals.Driver.TheVariants.{Controller, Slot}
use Rattle.vme_goals.specs.Goals.{aim_text}
use Rattle.vme_reach.specs.declared.needs.Need.{Need}
use Rattle.vme_reach.specs.declared.needs.Need.TheVariants as need
use Rattle.vme_reach.specs.declared.hindrances.Hindrance.{Hindrance}

-- what the board in a slot lacks
abbrev pub board_reason : ℕ → Need → List ℕ
board_reason s need.Controller = codes "only the controller makes such an edge"
board_reason s need.Board = (codes "slot " ++ decimal s) ++ codes " has no board"
board_reason s need.Requester = (codes "board " ++ decimal s) ++ codes " has no requester"
board_reason s need.OnRequest =
    (codes "the requester of board " ++ decimal s) ++ codes " is RWD"
board_reason s need.Interrupter = (codes "board " ++ decimal s) ++ codes " has no interrupter"
board_reason s (need.Kind Roak) =
    (codes "the interrupter of board " ++ decimal s) ++ codes " is RORA"
board_reason s (need.Kind Rora) =
    (codes "the interrupter of board " ++ decimal s) ++ codes " is ROAK"

-- what no driver has
abbrev pub general_reason : Need → List ℕ
general_reason need.Controller = codes "no driver is the controller"
general_reason need.Board = codes "no slot has a board"
general_reason need.Requester = codes "no board has a requester"
general_reason need.OnRequest = codes "no requester is ROR"
general_reason need.Interrupter = codes "no board has an interrupter"
general_reason (need.Kind Roak) = codes "no interrupter is ROAK"
general_reason (need.Kind Rora) = codes "no interrupter is RORA"

abbrev pub reason : Option Driver → Need → List ℕ
reason None n = general_reason n
reason (Some Controller) n = codes "the controller is no board"
reason (Some (Slot s)) n = board_reason s n

abbrev pub hindrance_text : Hindrance → List ℕ
hindrance_text h =
    ((codes "'" ++ aim_text h.aim) ++ codes "' never comes: ") ++ reason h.driver h.need
