-- The definitions of what can be known of a bus. `believe` marks what a theorem rests on, and
-- `words` what only says how one function serves another.

-- believe: how the interrupt requests stand, and when sets cover them
pub mod Requests
-- believe: who drives the strobes and answers a cycle, and when a set says so
pub mod Cycles
-- believe: how far the acknowledge has come on its chain, and when `Fronts` says so
pub mod FrontCovers
-- words: which boards have which interrupters
pub mod Interrupters
-- words: what is asked of sets of slots
pub mod Slots
-- words: what the calls of `Requests` do to the sets
pub mod RequestSets
-- words: where the low segments of the acknowledge chain may end, and what the calls of `Fronts` do
pub mod Fronts
-- words: which phases of the grants a set has
pub mod Phases
-- words: what a plan says of the grant chains
pub mod GrantChains
-- words: the phases behind each change of the grants and BBSY*
pub mod Grants
-- words: which boards a backplane has
pub mod Boards
-- words: which segments of the daisy chains a set holds
pub mod Segments
-- words: what a change moves
pub mod Moving
-- words: who may have made each change
pub mod Driving
-- words: what is known behind each change, part by part
pub mod Behind
-- words: what is known with the edges that no probe sees
pub mod Hidden
-- words: what is known of a bus when a capture begins
pub mod Running
-- words: what is asked of all that is known of a bus
pub mod Standings
-- words: which segments of the grant chains are low in a phase
pub mod LowSegments
-- words: what may be so in a phase of the grants and BBSY*
pub mod Cuts
-- believe: in which phases a bus can be that is running
pub mod Beginnings
-- believe: which phases an edge leads to that no probe sees, and how they are gathered
pub mod Unseen
-- words: what is known of a bus of which one of two is known
pub mod Unions
