-- `Side::verdict` and `take_next`: the first refusal, and the numbered edges
pub mod Judging
-- `Rest`: lists of edges that are left
pub mod Lists
-- an edge that comes to the front of what is left, by free swaps
pub mod Brought
-- `Pairing`: what is found of all, from what is found of the rest
pub mod Leading
-- `Matching`: both traces
pub mod Running
-- `write_found`: two lines that are written
pub mod Written
-- `compare`: two traces that were read
pub mod Read
-- the laws
pub mod OneTrace
pub mod OwnEdges
