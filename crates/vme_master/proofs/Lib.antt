pub mod Counts
pub mod Over
pub mod ReadPins
