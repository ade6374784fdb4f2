-- what is kept of the last cycle and the last tenure: `record`
pub mod Noted
-- what the bus and the marks say behind the edges that were followed: `tracked::Tracking`
pub mod Behind
-- the lines at edges, one after another: `tracked::Tracking`
pub mod NextLines
-- what is left of a trace: `judge`
pub mod LeftOfTrace
-- the cycles of a legal list do not overlap: `laws`
pub mod OneCycle
-- the tenures of a legal list do not overlap: `laws`
pub mod OneTenure
-- each is answered once before it ends: `laws`
pub mod OneAnswer
-- the numbers that a line names are those of falls: `laws`
pub mod NamedEdges
