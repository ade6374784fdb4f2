-- believe: what `shrink` writes and answers
pub mod Shrinking
