-- The definitions of what C passes and reads, in the order in which they are read. `believe` marks
-- what the contracts of the exports rest on.

-- believe: the numbers by which C names an edge
pub mod Named
-- believe: the bits by which C reads pins
pub mod Bits
-- believe: the numbers by which C reads answers, deliveries and edges
pub mod Numbers
-- believe: the numbers by which C reads the conditions of the rules
pub mod Conditions
-- believe: what a scenario opens, or the number by which it is refused
pub mod Opened
-- words: the number of a fault that is on its way to C
pub mod Faults
-- believe: the answer to an edge that is named or spelled, and what the edge leaves
pub mod Stepped
-- believe: what a bus is asked without a step: failing conditions, open edges, wires
pub mod Asked
-- believe: what stands in a caller's room after a list was written into it
pub mod Rooms
-- believe: what is drawn of the wires that the library plays
pub mod Played
-- believe: that draws on all wires make the trace of `drive --seed`
pub mod Laws
-- believe: the text of an answer, by the numbers of a step
pub mod Verdicts
-- believe: what a build says of itself
pub mod Built
