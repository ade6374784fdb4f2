-- The definitions of a check. `believe` marks what a theorem rests on, and `words` what only says
-- how one function serves another.

-- believe, for `check` and `explain`: what is found in a trace, and what a check leaves
pub mod Checking
-- words: the edges that a check has judged, and the first refusal among their answers
pub mod Unrefused
