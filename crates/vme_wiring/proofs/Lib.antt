-- a part that there is: `note_requester`, `note_master`, `Wiring::note_board`
pub mod Parts
-- a part's own rows of the table are those of the whole backplane: `Wiring::ask`
pub mod RuleRows
-- how a count moves with one board that pulls: `note_line`
pub mod PullCounts
-- what an edge of another driver leaves unchanged: `Wiring::note`
pub mod Others
-- how the segments of a chain move with the boards that work it: `note_segment`
pub mod SegmentMoves
-- the counts of the lines after an edge: `Wiring::note`
pub mod LineNotes
-- the chains after an edge: `Wiring::note`
pub mod ChainNotes
-- the wiring after an edge is that of the longer history: `Wiring::note`
pub mod LongerHistory
-- what the fields say about the history: `Wiring::pins`, `is_low`, `ask`, `settling`
pub mod FieldReads
-- before any edge: `Wiring::new`
pub mod Fresh
-- what the fields of a board in its place say: `is_low`
pub mod ConsideredReads
-- what a part answers by its own fields: `Board::may`
pub mod PartAnswers
-- a driver that waits has no edge that the rules allow: `Wiring::is_waiting`, `waiting_parts`,
-- `offers`
pub mod NoOffers
-- a quiet board that nothing has reached waits: `Wiring::is_waiting`
pub mod Quiet
