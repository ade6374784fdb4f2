-- The definitions of traces that are followed edge by edge. `believe` marks what a theorem rests
-- on, and `words` what only says how one function serves another.

-- believe, for `print_at_edge`: what is printed at the edge of a trace that is asked for
pub mod Printing
-- believe, for `explain` alone: what it prints of an edge
pub mod Explaining
-- believe, for `state` alone: which place is printed, and what that leaves
pub mod Stating
-- words: what the edges of a trace do to `explain`, `state` and others
pub mod Followed
