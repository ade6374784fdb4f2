-- sums that grow with an edge
pub mod Counted
-- waits and holds don't overlap
pub mod Spans
-- the numbers of a board before and after an edge
pub mod OneBoard
-- those of the situations
pub mod Situations
-- a tally before the first edge, and after one more
pub mod OneMore
-- words one after the other, and the topics
pub mod Words
-- every accepted edge is counted for one rule
pub mod RuleShares
