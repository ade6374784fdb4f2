-- To be believed by whoever reads the theorems.
pub mod Seats
pub mod Holds
pub mod Closing
pub mod Endings
-- Words that the functions use between them, and that no public contract says.
pub mod Following
pub mod Logs
