-- The definitions of a summary. `believe` marks what a theorem rests on, and `words` what only says
-- how one function serves another.

-- believe: what is counted of a trace
pub mod Tally
-- believe: how it is written
pub mod Summary
-- believe, for `Sums` and `write_sums`: what several traces come to, and how it is written
pub mod Sums
-- words: which tally answered edges lead to
pub mod Tallied
-- believe, for sums over several traces: which sums tallies lead to
pub mod Summed
-- believe, for `summary` alone: what that leaves
pub mod Summing
-- believe, for `add_trace`: what one more trace does to the sums of those before it
pub mod Totals
-- words: what the edges of a trace do to `summary`
pub mod TraceSums
