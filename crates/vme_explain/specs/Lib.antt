-- words: where each number stands, and how a fall moves those of its board
pub mod Marks
-- words: which marks numbered edges lead to
pub mod Marked
-- words: what holds of a backplane and the marks of its edges
pub mod Traced
-- words: parts of what is printed
pub mod Witnessed
-- words: what is printed about a condition, by groups of conditions
pub mod Grouped
-- words: the pieces in which a block is written
pub mod Blocks
-- words: the parts of the block that says where a bus stands
pub mod Standing
