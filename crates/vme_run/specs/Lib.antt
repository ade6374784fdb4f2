-- To be believed by whoever reads the theorems.
pub mod Names
pub mod Running
-- Words that the functions use between them, and that no public contract says.
pub mod Rooms
pub mod Between
