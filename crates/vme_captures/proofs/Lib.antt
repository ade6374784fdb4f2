-- what is the same by its test is the same; lists
pub mod Same
-- what a reader keeps: `reader::Reader::take_entry`
pub mod Kept
-- line by line: `reader::Reader::take_line`
pub mod Steps
-- what a line says is what it spells: `words`, `laws`
pub mod Spelled
-- a reader takes bytes: `reader::Reader::take`, `feed` and `finish`
pub mod Took
-- what is spelled is read: `laws`
pub mod Found
-- the laws of a line: `laws`
pub mod LineLaws
-- a capture that says less stays possible: `laws`
pub mod Less
-- a test of the slots below another: `wires::is_closed_below`
pub mod BelowSlots
-- the first byte that passes: `words`
pub mod FirstByte
