-- the number that digits spell: `numbers::number_of`
pub mod Spelled
-- what one part made, and what slack allows: `laws`
pub mod Earlier
-- an order of a list that was cut into moments: `laws::a_legal_run_has_an_order`
pub mod CutRuns
-- a beginning that has not all places can go on: `laws`
pub mod Whole
-- line by line and byte by byte: `reader::Reader::take_line` and its like
pub mod ReaderSteps
-- a reader takes bytes: `reader::Reader::take`, `feed` and their like
pub mod TakenBytes
-- no slack is greater than the greatest: `slacks::Slacks::greatest`
pub mod Greatest
-- what is read stands in order: `reader::read_moments`
pub mod InOrder
-- a reader and its input: `reader::read_moments`
pub mod InputRead
