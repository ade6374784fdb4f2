-- words: where each number stands, and how a fall moves those of its board
pub mod Marks
-- words: which marks numbered edges lead to
pub mod Marked
