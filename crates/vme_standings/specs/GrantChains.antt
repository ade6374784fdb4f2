-- What a plan says of the grant chains. A segment is named by the slot of the board that drives it,
-- and 0 names the controller's. (The chains are those of chapter 3.)
use Rattle.std.specs.Prelude.{◌==◌, ◌&&◌, ℕ, Bool, false, Option, unwrap_or}
use Rattle.std.specs.Option.{option_map_or, option_and_then}
use Rattle.vme_model.specs.declared.boards.RequesterRow.{RequesterRow}
use Rattle.vme_model.specs.Plan.{Plan, board, requests_on, upstream, last_active, grant_chain}

-- the requester of the board in a slot
abbrev pub requester_at : Plan → ℕ → Option RequesterRow
requester_at p s = option_and_then (λ r. r.requester) (board p s)

-- the board in the slot has a requester of that level
abbrev pub is_of_level : Plan → ℕ → ℕ → Bool
is_of_level p c s = option_map_or (requests_on c) (board p s) false

-- the segment of the chain that is the slot's input
abbrev pub place_before : Plan → ℕ → ℕ → ℕ
place_before p c s = unwrap_or (upstream p (grant_chain c) s) 0

-- the last segment of the chain
abbrev pub end_place : Plan → ℕ → ℕ
end_place p c = unwrap_or (last_active p (grant_chain c)) 0

-- the segment that the slot drives comes next after that one
abbrev pub is_follower : Plan → ℕ → ℕ → ℕ → Bool
is_follower p c place s = is_of_level p c s && (place_before p c s == place)
