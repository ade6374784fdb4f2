-- `Moves::new`, `Services::new`: each driver's wire has a place, and before the first edge no number stands there
pub mod Fresh
-- the slots of an accepted plan
pub mod OnPlan
-- what is printed about a wire, of a grant, of a strobe
pub mod Witnessed
-- lists that grow by what passes a test
pub mod Grown
-- every wire that is named for a condition has a word: `blocks::write_reason`
pub mod SpokenWitnesses
-- pieces of a text that are written one after another: src/blocks.rt
pub mod WrittenPieces
-- the lines of a condition, those of all, and the block: src/blocks.rt
pub mod WrittenReasons
-- no more than six conditions are tested of an edge: `blocks::write_why`
pub mod SixTested
-- `drivers`: no edge is of a wire that no driver has
pub mod NoSuchWire
-- `drivers`: an interrupter is pending while its request is low and was not served
pub mod Pending
-- `stands`: the words of a line, as far as they were printed
pub mod Listed
-- `stands`: texts that are written one after the other
pub mod Written
-- `stands`: the whole block is what is printed about the bus and of the drivers
pub mod Block
-- `step_marked`: an edge that is accepted is noted
pub mod MarkedSteps
