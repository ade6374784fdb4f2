-- The definitions of the engine `same`. `believe` marks what a theorem rests on, and `words` what
-- only says how one function serves another.

-- believe: when two traces are the same but for free swaps, and what differs otherwise
pub mod Comparing
-- believe: the lines that report it
pub mod Lines
-- words: an edge that differs is well formed
pub mod Formed
-- words: what is kept of the edges so far
pub mod Kept
