-- `Chain::fall` and `Chain::rise`: how a segment that moves changes the count of the low ones
pub mod Counts
-- the laws: a chain with the segments of a history is read as the definitions read the history
pub mod History
