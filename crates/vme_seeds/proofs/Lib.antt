-- counts of edges by their kinds: `Tally::of`, `Walk::make`
mod Counted
-- the order of the kinds: `Weights::draw`, `Walk::choice`, `nothing_is_left_out`
mod KindOrder
-- the words of a generator, one after another: `Weights::draw`, `Walk::draw`
mod Words
-- which edge two words choose: `Walk::choice`, `Walk::draw`
mod Drawn
-- `nothing_is_left_out`, and what is chosen is open
mod AllOpen
-- a walk, edge by edge, and that its version and plan stay the same: `draws::take` of vme_drive
pub mod Walked
-- `every_number_can_be_drawn`
mod Shares
