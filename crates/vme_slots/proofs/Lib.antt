-- `slot_twice` and `chain_broken`: slots counted, and scanned in ascending order
pub mod Slots
-- `Plan::drivers`: the drivers up to a slot
pub mod Drivers
-- `Plan::new`: no fault of a plan is want of memory
pub mod NoMemory
