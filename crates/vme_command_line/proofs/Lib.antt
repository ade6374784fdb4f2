-- src/commands.rt: a command line, as each call adds to it
pub mod Building
-- src/lib.rt: what the getters of a parse give
pub mod Operands
-- src/lib.rt: what is unfit is no job
pub mod NoJobs
-- src/lib.rt: a text that names seeds
pub mod Parting
-- src/slacks.rt: a text names a driver with its slack
pub mod NamedDrivers
-- src/slacks.rt: a text names drivers with a slack each
pub mod ListedDrivers
-- src/aims.rt: a text that names no driver
pub mod NamedBoards
-- src/single.rt: a command alone reads as it does behind its name
pub mod ReadAlone
