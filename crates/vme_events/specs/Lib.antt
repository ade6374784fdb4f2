-- believe: which situations an edge brings about
pub mod Events
-- believe: which edge one condition alone refuses
pub mod Misses
-- believe: a history whose edges have their places as numbers, and numbers that grow
pub mod Places
-- words: what holds of a backplane and the marks of its edges, whose numbers grow
pub mod Ordered
-- words: the situations that an edge brings about, by its wire
pub mod Brought
-- words: edges to either state of a wire, and what refuses an edge
pub mod Turned
