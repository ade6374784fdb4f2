-- The definitions of the drives. `believe` marks what a theorem rests on, and `words` what only
-- says how one function serves another.

-- believe, for `drive` alone: what the drivers make, and what is written of it
pub mod Driving
-- believe, for `drive_drawn` and `drive_found`: a walk that seeks a goal, and how it ends
pub mod Seeking
-- believe, for `laws::a_walk_ends_with_its_event`: the first edge that brings an event
pub mod Bringing
-- believe, for `drive_drawn` and `drive_found`: what a seed draws, and what is written of it
pub mod Drawing
-- believe, for `drive_found` alone: which seed is found, and what is written of it
pub mod Found
-- words: the numbers in the line of an edge
pub mod Spelled
