-- one bit of a word: `SlotSet`
pub mod Masks
-- no board stands beyond the last slot: `slots_on`
pub mod Boards
-- what a plan says of each slot and line: `Layout::new`
pub mod Seats
-- before any edge: `BusState::new`
pub mod PowerUp
-- what the sets of slots say of the lines that boards pull: `BusState::bbsy`, `request` and their like
pub mod Lines
-- what a board reads at its inputs: `BusState::grant_in`, `iack_in`
pub mod Inputs
-- which part of a board a wire is of: `BusState::board_rule`, `judge`, and what its arms call
pub mod Parts
-- the next slot of the set of boards is the next slot with a board: `BusState::board_above`
pub mod NextBoards
-- what parts of guards read: `BusState::showing`, `passing`, `answering`
pub mod Guards
-- what the low segments say of the settling rules: `BusState::are_grants_through` and its like
pub mod Outputs
-- what a board's edge is answered: `ask_requester` and its like
pub mod Asked
-- when the edge that moves a wire to its other state is open: `BusState::may_control`, `may_request` and their like
pub mod Turned
-- the verdict on an edge that no settling rule names: `BusState::judge_requester`, `judge_interrupter`
pub mod Settled
-- what an edge of one part leaves as it is of the others: `BusState::move_requester` and its like
pub mod Stays
-- one place of a set moves: `BusState::move_requester` and its like, `move_controller`
pub mod Places
-- the state after an edge is that of the longer history: `BusState::move_requester` and its like, `move_controller`
pub mod LongerHistory
-- what the sets say of one slot: `BusState::outputs`, `is_driven_low`, `row`, `outcome_by_rule`
pub mod OneSlot
-- where a grant stops, it travels: `BusState::grant_at`, `Bus::grant_at`
pub mod Standing
-- the slots of an accepted plan, who is found among them, and what is shown: `Bus::has_driver`, `holder`, `addressing`, `shown`
pub mod PlanSlots
-- whose parts have no edge to make: `BusState::ready_masters`, `ready_interrupters`
pub mod Ready
-- where a trace has room, E5 does not come: `Bus::step`, `BusState::step`
pub mod Room
-- each refusal has a number of its own: `BusState::step_requester` and its like
pub mod Numbers
-- what a state is of that was given the kind of another: `BusState::set_kind`
pub mod OneKind
-- what an edge fails with the end of the trace, from what it fails without it: `Bus::outcome`, `failing`
pub mod Failing
