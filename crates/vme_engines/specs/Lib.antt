-- The definitions of the engines. `believe` marks what a theorem rests on, and `words` what only
-- says how one function serves another.

-- believe, for `joined` alone: a scenario and a trace in one input
pub mod Joining
-- believe, for `check`, `drive` and `explain`: what is found in a trace, and what a check leaves
pub mod Checking
-- believe, for `explain` alone: which edge is explained, and what that leaves
pub mod Explaining
-- believe, for `state` alone: which place is printed, and what that leaves
pub mod Stating
-- believe, for `show` alone: which edges are shown, and what that leaves
pub mod Showing
-- believe, for `summary` alone: what that leaves
pub mod Summing
-- believe, for `add_trace`: what one more trace does to the sums of those before it
pub mod Totals
-- believe, for `drive` alone: what the drivers make, and what is written of it
pub mod Driving
-- believe, for `drive_drawn` and `drive_found`: a walk that seeks a goal, and how it ends
pub mod Seeking
-- believe, for `laws::a_walk_ends_with_its_event`: the first edge that brings an event
pub mod Bringing
-- believe, for `drive_drawn` and `drive_found`: what a seed draws, and what is written of it
pub mod Drawing
-- believe, for `drive_found` alone: which seed is found, and what is written of it
pub mod Found
-- words: what the edges of a trace do to `explain` and `state`
pub mod Followed
-- words: a stretch that is shown, and how far it came
pub mod Stretches
-- words: what the edges of a trace do to `show`
pub mod Shown
-- words: what the edges of a trace do to `summary`
pub mod Summed
-- words: the input before its trace, byte by byte
pub mod Front
-- words: a number as it stands in a verdict line
pub mod Counting
-- words: what is written of a list of answers, and found in it
pub mod Recorded
-- words: the numbers in the line of an edge
pub mod Spelled
-- words: the edges that a check has judged
pub mod Unrefused
