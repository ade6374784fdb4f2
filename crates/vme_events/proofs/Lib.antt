-- numbers grow along a trace, and along a history's places
pub mod Places
-- `before`: of two requests that are low the older one has the smaller number
pub mod Asked
-- `events_of`: the situations that an edge brings about are those of its wire and direction
pub mod ByWire
-- `before`: a search of the slots, a burst, and what a board has answered
pub mod Waiting
-- `comes`: a situation is one of those that an edge brings about where its test holds
pub mod Contained
-- `searches`: an edge to the state that its wire is in, and a search as far as it has come
pub mod Searched
