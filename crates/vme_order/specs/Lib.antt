-- The definitions of the engine `order`. `believe` marks what a theorem rests on.

-- believe: what is written of an order, and what the engine answers
pub mod Ordering
-- words: the lines that are written, one after another
pub mod Lines
-- words: how faults are reported
pub mod Faults
