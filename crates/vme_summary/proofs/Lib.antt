-- sums that grow with an edge
pub mod Counted
-- waits and holds don't overlap
pub mod Spans
-- the numbers of a board before and after an edge
pub mod OneBoard
-- those of the situations
pub mod Situations
-- a tally before the first edge, and after one more
pub mod OneMore
-- words one after the other, and the topics
pub mod Words
-- what an accepted edge has passed
pub mod Passing
-- every edge is counted for one rule or one refusal, and every tenure for one board
pub mod Shares
-- a board asks and holds as its wires stand
pub mod Standing
-- the sums of several traces, before the first and after one more
pub mod AddedTraces
-- what the edges of a trace come to, piece by piece
pub mod TraceSums
