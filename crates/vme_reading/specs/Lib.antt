-- The definitions of the reading of traces. `believe` marks what a theorem rests on, and `words`
-- what only says how one function serves another.

-- believe: what was read and what was written, as far as the bytes are known
pub mod Streams
-- believe: a scenario that an engine is lent, and what a replay leaves
pub mod Outcomes
-- believe, for `explain`, `state` and `show`: a fault of a trace before what they wait for
pub mod Waiting
-- believe, for `read_pair` alone: what is read of two traces side by side
pub mod Pairs
-- believe, for `check`, `explain` and others: the first edge of a trace that is refused
pub mod Refusals
-- believe, for `at_edge`: which edge is asked for, and what is left of a trace that is read up to
-- it
pub mod Seeking
-- believe, for what writes a trace and for `check`: a whole trace whose edges are a legal list
pub mod LegalTraces
-- words, but for `IsNoPlan`, which `plan_of` answers by: what the reads and the pieces of a trace
-- do to an engine
pub mod Steps
-- words: what is known of a trace at a read
pub mod Pieces
-- words: what the one reading of a trace leaves
pub mod Readings
-- words: a trace that stands alone, up to its header line
pub mod Begun
-- lemmas, which laws of `Judge` cite: a trace without a header line
pub mod Unread
-- words: two traces that are read side by side, as far as they were read
pub mod Sides
-- words: a text that is put together before it is written
pub mod Texts
-- words: a trace that is read up to the edge that is asked for
pub mod Sought
-- believe, for `at_each`: what is left of a trace by a command that writes lines at its edges; from
-- `HasWritten` on it is words
pub mod Reporting
