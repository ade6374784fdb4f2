-- Which boards a backplane has.
use Rattle.std.specs.Prelude.{ℕ, Bool, Option, Some, None, List, [], ◌∷◌, is_some}
use Rattle.vme_model.specs.declared.boards.Row.{Row}
use Rattle.vme_model.specs.Plan.{Plan}
use Rattle.vme_standings.specs.GrantChains.{requester_at}

-- the board in the slot can ask for the bus
abbrev pub has_requester : Plan → ℕ → Bool
has_requester p s = is_some (requester_at p s)

-- the slot of the board that is alone on its backplane
abbrev pub only_board : List Row → Option ℕ
only_board (r ∷ []) = Some r.slot
only_board _ = None
