-- The definitions of the engine `races`. `believe` marks what a theorem rests on, and `words` what
-- only says how one function serves another.

-- believe: how far an accepted edge goes back
pub mod Walks
-- believe: the lines that report it
pub mod Lines
-- believe: what is written of a trace, and what the engine answers
pub mod Outcomes
-- believe, for `walk_of_edge` alone: the line of one edge, and what that leaves
pub mod Asked
-- believe, for `other_order` alone: the other order of a race, and what that leaves
pub mod Other
-- words: the bus before an edge, by what of it is kept
pub mod Kinds
-- words: what is kept of the edges so far
pub mod Kept
-- words: a trace that is read up to the edge that is asked for
pub mod Sought
-- words: a trace whose accepted edges are kept in a list
pub mod Listed
