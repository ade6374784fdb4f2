-- `believe` marks what the theorems of `Wiring` rest on, and `words` marks what only says how one
-- function serves another. The theorems of a backplane rest on none of these files.

-- words: a board's parts, by the history of its backplane
pub mod Boards
-- words: the lines, as counts of the boards that pull them
pub mod Counts
-- words: the daisy chains, by the history of their backplane
pub mod Chained
-- words: the wiring to which a history leads; `Wiring::new` and `note` say all that a user needs to
-- know of it
pub mod Wired
-- words: what a board reads, and is asked
pub mod Asked
-- believe, for `Wiring::is_waiting`: which drivers wait for an edge of another driver
pub mod Waits
