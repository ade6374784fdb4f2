pub mod Over
pub mod Seen
pub mod ReadPins
