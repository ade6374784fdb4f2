-- `Marks::new`: each driver's wire has a place, and before the first edge no number stands there
pub mod Fresh
-- `drivers`: no edge is of a wire that no driver has
pub mod Wires
-- `drivers`, `grants`: a search, as far as it has come
pub mod Found
-- `drivers`: an interrupter is pending while its request is low and was not served
pub mod Pending
-- `stands`: the words of a line, as far as they were told
pub mod Listed
-- `stands`: texts that are written one after the other
pub mod Written
-- `stands`: the whole block is what is told of the bus and of the drivers
pub mod Block
