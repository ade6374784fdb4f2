-- The definitions of the search. What is sought is `vme_moments.specs.Orders`. `believe` marks what
-- a theorem rests on.

-- believe: when there are too many orders
pub mod TooMany
-- words: sets of places, and which can come next
pub mod Places
-- words: how beginnings came about
pub mod Trails
-- words: beginnings of one length by the bucket of their places
pub mod Layers
-- words: what a search keeps
pub mod Searching
