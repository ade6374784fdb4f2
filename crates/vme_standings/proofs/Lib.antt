-- which slots work a grant chain, and in which order
pub mod Slots
-- a set that takes in one slot after the other
pub mod Growing
-- A set of phases holds none beyond its bits.
pub mod PhaseBits
-- the rows of a set of phases that are put in one after the other
pub mod Rows
-- tests of sets that hold and fail: `Requests::falls`, `acknowledged`, `passed`
pub mod Tests
-- one slot more in a loop over slots: `Interrupters::slots`
pub mod Loops
-- how an edge moves an interrupt request: `unseen_edge_keeps_requests_covered`
pub mod RequestSteps
-- what covers the requests behind an edge that a line shows: the other laws of the requests
pub mod RequestRows
-- what a line is before and behind an edge, by what the probes see of it
pub mod SeenLines
-- the laws of the requests
pub mod RequestLaws
-- the laws of edges that move no request, and of those by which a board passes an acknowledge on
pub mod RequestPasses
-- who drives AS* and DTACK*
pub mod WhoDrives
-- one slot more in the walk along the acknowledge chain: `Fronts::with_hidden`
pub mod Walks
-- which phases the sets of `with_unseen` have
pub mod UnseenPhases
-- one slot more in a walk along a grant chain
pub mod Walked
-- the phases of a level in which nobody holds the bus, that are put in one level after the other
pub mod LevelRows
-- the phases that show what the probes see
pub mod SeenPhases
-- how far the acknowledge has come, by an edge of its chain: `front_laws`
pub mod FrontSteps
-- what an edge moves, by what the probes see of it: `front_laws`
pub mod SeenEdges
-- the laws of how far the acknowledge has come
pub mod FrontLaws
-- the laws of how far the acknowledge has come, behind an edge that the probes see
pub mod FrontSeen
-- what covers a part of a bus covers it in a union: `union_laws`
pub mod UnionLaws
-- what covers the whole bus covers it in a union: `union_laws`
pub mod UnionCovers
-- the segments of a grant chain, by their order: `grant_laws`
pub mod GrantPlaces
-- how an edge leads from one phase of the grants and BBSY* to the next: `grant_laws`
pub mod PhaseSteps
-- what the rules say of an edge of the grants or BBSY*, by the phase before it: `grant_laws`
pub mod GrantEdges
-- the laws of the grants and BBSY*, behind an edge that the probes see
pub mod GrantSeen
-- what the rules say of an edge of a grant chain, by the phase before it: `grant_laws`
pub mod GrantTurns
-- which edge moves a segment of a grant chain: `grant_laws`
pub mod GrantSegments
-- the laws of the grant chains, behind an edge that the probes see
pub mod GrantRows
-- the law of the grants and BBSY* behind an edge that no probe sees
pub mod GrantHidden
-- the laws of the grants and BBSY* behind a change of a BR line, of AS* or of BCLR*
pub mod GrantOthers
-- every bus that keeps the rules is in a phase of the grants and BBSY*: `grant_laws`
pub mod GrantBegins
-- how the levels of the shared lines and of the segments move with an edge: `joined_laws`
pub mod JoinedLevels
-- what is known of a cycle, behind an edge: `joined_laws`
pub mod JoinedCycle
-- how the levels that the probes see move with an edge: `joined_laws`
pub mod JoinedSegments
-- the hidden moves, and an edge that no probe sees: `joined_laws`
pub mod JoinedHidden
-- what is known of the whole bus, behind a change that is seen: `joined_laws`
pub mod JoinedSeen
-- what is known of the whole bus, behind a change of a grant chain: `joined_laws`
pub mod JoinedGrants
-- what is known of the whole bus, behind a change of the acknowledge chain: `joined_laws`
pub mod JoinedPasses
-- what is known of the whole bus, behind a fall of DTACK*: `joined_laws`
pub mod JoinedAnswers
-- what is shown on a bus that keeps the rules: `joined_laws`
pub mod JoinedShows
-- what is known of the whole bus, behind a fall of AS*: `joined_laws`
pub mod JoinedStarts
-- what is known of the whole bus, behind a fall of BERR*: `joined_laws`
pub mod JoinedErrors
-- what is known of the whole bus, behind each change that is seen: `joined_laws`
pub mod JoinedRows
-- edge by edge, every list that shows a capture is covered: `joined_laws`
pub mod JoinedLists
-- what is known of a running bus covers it: `joined_laws`
pub mod JoinedRuns
-- what is known of a bus that it covers: `joined_laws`
pub mod JoinedTells
-- where a grant stands, by what is known of a bus that it covers: `joined_laws`
pub mod JoinedWaits
-- what is known covers every bus that shows a capture: `joined_laws`
pub mod JoinedCaptures
-- what is known at the beginning covers the bus: `joined_laws`
pub mod JoinedBegins
