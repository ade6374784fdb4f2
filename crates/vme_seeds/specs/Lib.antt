-- `believe` marks what the theorems of a walk rest on, and `words` marks what only says how one
-- function serves another.

-- believe: the kinds of edges, and their order
pub mod Kinds
-- believe: the numbers of a seed
pub mod Numbers
-- believe: which edge two numbers choose
pub mod Choices
-- believe: the draws of a seed, as numbers
pub mod Draws
-- believe: the walk of a seed
pub mod Walks
-- believe: that nothing is left out, and every number can be drawn
pub mod Laws
-- words: counts of edges by their kinds
pub mod Tallies
