-- The definitions of the engine `cycles`. `believe` marks what a theorem rests on, and `words` what
-- only says how one function serves another.

-- believe: the transactions of a trace, and the lines that report them
pub mod Transactions
-- believe: what is written of a trace, and what the engine answers
pub mod Outcomes
-- words: what is kept of the edges so far
pub mod Kept
