-- The definitions of captures. `believe` marks what a theorem rests on.

-- believe: what a probe can be on, and what it can see there
pub mod Signals
-- believe: which wire a pin is on
pub mod Wires
-- believe: which change the probes see of an edge
pub mod Changes
-- believe: when a bus that keeps the rules can show a capture, and who may have made a change
pub mod Possible
-- believe: captures that say less of what was seen
pub mod Leaving
-- believe: how what a line of a capture says is spelled
pub mod Spelling
-- words: what a line says, word by word
pub mod Words
-- believe: what the bytes of a capture say, and their first fault
pub mod Reading
-- believe: what a reader has read
pub mod Feeding
-- words: which of the shared lines are low, as they are kept
pub mod Levels
-- words: what the parts of a reader do with what a line says
pub mod Taking
