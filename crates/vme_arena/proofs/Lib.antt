-- a piece becomes a block: the allocator of `Lease`, `Block::move_to`
pub mod Blocks
-- `carved_stretches_are_apart`
pub mod CarvedStretches
-- what a slot holds is one value: `Slot::new`, `replace`
pub mod Cells
-- granules are cut and joined, and one of them is reached: `Loan::split`, `take`, `put`, `Granules`
pub mod Homes
-- what all granules own is lent for the rest of a borrow: `Granules::lend`
pub mod LentGranules
-- what a region owns is lent for the rest of a borrow: `Region::lend`
pub mod LentRegion
-- the slots of a signature, and what runs after a part of a body: all that is walked by hand
pub mod Parts
-- the two cases of a block that was to be resized: the allocator's `grow` and `shrink`
pub mod Resized
-- a block with values in it grows and shrinks: `Block::extend`, `narrow`, `move_to`
pub mod Resizes
-- what the types own names no thread: that they may be sent
pub mod Sent
-- the names that the walks cite
pub mod Steps
-- room in units of 16 bytes, and room without alignment: `Granules`, `Loan`, `Piece::join`
pub mod Units
-- the values of the structs, as the machine has them
pub mod Values
