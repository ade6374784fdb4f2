-- what was kept of a trace, and what is written behind it
pub mod WrittenStories
