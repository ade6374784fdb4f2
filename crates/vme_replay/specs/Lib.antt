-- The definitions of a replay. `believe` marks what a theorem rests on, and `words` what only says
-- how one function serves another.

-- believe, for `joined` alone: a scenario and a trace in one input
pub mod Joining
-- words: the input before its trace, byte by byte
pub mod Front
-- words: a number as it stands in a verdict line
pub mod Counting
-- words: what is written of a list of answers, and found in it
pub mod Recorded
-- words: a replay, behind some edges of a trace
pub mod Replayed
