-- The definitions of samples. `believe` marks what a theorem rests on, and `words` what only says
-- how one function serves another.

-- believe: what is known behind each set of the changes of a sample, and who may have made them
pub mod Ways
-- believe: which change of a sample may come next, and which changes belong to it
pub mod Samples
-- believe: what an order of a sample is
pub mod Orders
-- words: sets of places of a sample
pub mod Places
-- words: how those are gathered who may have made each change
pub mod Makers
