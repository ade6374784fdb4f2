-- The definitions of a trace that is read and written in pieces. `believe` marks what a theorem
-- rests on, and `words` marks what only says how one function serves another.

-- believe: what a reader has read, and its answer to a piece, to the end and to a whole trace
pub mod Reading
-- believe: a reader's answer to a piece of up to a given size
pub mod Pieces
-- believe: the line of an edge, and that a prefix of some bytes was written
pub mod Writing
-- words: what a step of a reader does, between two places in a trace
pub mod Taking
-- words: lines that were read before, and how they are found
pub mod Known
-- words: what stands at the front of a text, part by part
pub mod Fronts
-- believe, for `laws` alone: what is read of a whole trace
pub mod Texts
