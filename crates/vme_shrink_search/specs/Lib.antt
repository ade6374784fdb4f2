-- believe: what is said of an edge behind a list of edges
pub mod Replies
-- believe: which shorter lists keep what is said of an edge
pub mod Stories
-- words: whether the same is said twice, by a test
pub mod Alike
-- words: what a search for a story keeps
pub mod Searching
-- words: the edges that lead to a state
pub mod Leading
