-- The definitions of the engine `order`. `believe` marks what a theorem rests on.

-- believe: what is written of an order, and what the engine answers
pub mod Ordering
