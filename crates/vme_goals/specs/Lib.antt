-- believe: which situations have a name
pub mod Events
-- believe: what a trace can be drawn to reach, and its words
pub mod Goals
