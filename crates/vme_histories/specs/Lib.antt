-- `believe` marks what theorems rest on, and `words` marks what only says how one function serves
-- another.

-- words: what a state of the bus is asked, in whatever form it is kept
pub mod Judged
-- words: what is asked of an edge
pub mod Asked
-- words: the levels of a board
pub mod Levels
-- words: what the address lines show
pub mod Shown
-- words, for `put_parts` and `put_controller`: what a driver is offered, without the end of the
-- trace
pub mod Offered
-- words, for `open_edges_of`: all edges that a driver can make, without the end of the trace
pub mod Opens
-- believe, for safety: what holds for the history of every backplane and of every bus
pub mod Sound
