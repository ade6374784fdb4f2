-- The definitions of the engine `probe`. `believe` marks what a theorem rests on, and `words` what
-- only says how one function serves another.

-- believe: what the engine writes and answers
pub mod Probing
-- believe: what is known of the bus behind what was said of a capture
pub mod Knowing
-- believe: what is printed, beside the buses that keep the rules and show the capture
pub mod Naming
-- believe: the same with `--skew`, in whatever order the changes of a sample were made
pub mod SampledNaming
-- believe: what is known of the bus behind the changes of a sample, and what is written of them
pub mod Sampled
-- believe: the lines of the answer
pub mod Lines
-- believe: what is written at the end of a capture
pub mod Ends
-- believe: what is written of a change that nobody may have made
pub mod Stopped
-- believe: what is printed of a condition that fails
pub mod Obstacles
-- believe: what conditions ask of the standings of a record, and which of them fails first
pub mod Demands
-- believe: the conditions of each change
pub mod Conditions
-- believe: when a condition of a change holds of a driver on a bus
pub mod Holding
-- believe: when something is named that stands in a driver's way
pub mod Hindered
-- believe: what is known of BBSY* and the daisy chains fits together
pub mod ChainsFit
-- believe: what is known behind a capture, and what is printed of a change that is refused
pub mod Led
-- words: the probed pins, as segments of the daisy chains
pub mod Pins
-- words: what the parts of a judgement do
pub mod Steps
-- words: what the parts of the reading of a capture do
pub mod Reads
-- words: the room for what is written behind the lines of the changes
pub mod Rooms
-- words: how faults are reported
pub mod Faults
