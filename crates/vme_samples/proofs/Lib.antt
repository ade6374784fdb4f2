-- what is known behind a set stays so while others are found: `ways::Ways::fill`
pub mod Kept
-- which of several sets is the furthest: `ways::Ways::furthest`
pub mod Furthest
-- who may have made each change, found from all of a set down: `makers`
pub mod Towards
-- a set of places with one place more
pub mod OneMore
-- what the last one of some changes of a sample says, and how many there are
pub mod Said
-- which changes of a sample are in a set, where those of each line or pin keep their order
pub mod Next
-- what the probes see behind a set of the changes, whatever their order: `laws`
pub mod Tells
-- what the probes see behind one change more: `laws`
pub mod TellsNext
-- all that is known behind a set tells the same of what the probes see: `laws`
pub mod Reached
-- change by change along an order of a sample: `laws`
pub mod Walk
-- sample by sample: `laws`
pub mod Following
-- the orders of two samples one behind the other: `laws`
pub mod Joined
-- a sample of one change
pub mod Alone
