-- The definitions of free swaps. `believe` marks what a theorem rests on, and `words` what only
-- says how one function serves another.

-- believe: when the bus stands alike after two histories
pub mod Alike
-- believe: which two edges may change places, how an edge goes back over the one before it, and
-- histories that are one but for free swaps
pub mod Swaps
-- believe, for `races` and `same`: what stops an edge that goes back
pub mod Stops
-- believe, for `races` and `same`: how that is written
pub mod StopLines
-- words: an answer that serves the interrupt request of its own board; to be believed for
-- `legal_orders_differ_by_a_served_request` alone
pub mod Served
