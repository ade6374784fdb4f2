-- a trace that is followed edge by edge: src/following.rt
pub mod FollowedEdges
-- what is printed about a trace: src/explains.rt, src/states.rt
pub mod PrintedBlocks
