-- words: the number that is kept for an edge
pub mod Codes
-- words: how the edges lie in pages
pub mod Pages
-- words: why room is refused; to be believed only by a reader who uses the store alone
pub mod Refusals
