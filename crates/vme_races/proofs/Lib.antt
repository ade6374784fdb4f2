-- `Recent::walk`: an edge goes back through the last accepted edges
pub mod Passed
-- `Recent::push`: the last accepted edges with the next one
pub mod Pushed
-- `Racing::take_in`: what is kept, with the next edge
pub mod TakenIn
-- src/judge.rt: what is written of a trace
pub mod WrittenRaces
-- src/asked.rt: the line of the edge that is asked for, and the edges that are passed
pub mod AskedLines
-- `Reordering`: the accepted edges in a list
pub mod ListedEdges
-- `other_order`: the other order of a race
pub mod OtherOrders
-- the laws
pub mod LegalOrders
pub mod OneOrder
