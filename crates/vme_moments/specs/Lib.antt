-- The definitions of edges with their moments. `believe` marks what a theorem rests on.

-- believe: which of two edges came before the other
pub mod Before
-- believe: what a text of moments says
pub mod Moments
-- believe: beginnings, legal ones, and which is sought
pub mod Orders
-- believe: which text was read, and what is answered to it
pub mod Reading
-- believe, for `laws` alone: a list that is cut into moments
pub mod Cuts
-- words: what a reader does with lines and bytes
pub mod Taking
-- words: the number that a text spells
pub mod Numerals
-- words: what a reader has read of its input
pub mod Consumed
