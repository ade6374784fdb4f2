-- believe: what is drawn of a stretch of a trace
pub mod Picture
-- words: what a window keeps of a stretch, and its lines by that
pub mod Columns
