-- the rounds of a drive, what it leaves, and that the edges made are well formed: src/drives.rt
pub mod DriveRounds
-- the lines of edges, put to a text as they are made: `DrivenLines`, `DrawnLines`
pub mod ListedLines
-- the lines of a drive, written as its edges are made: `Driving::write`
pub mod DrivenLines
-- the turns of the boards, past those that may not move: `Driving::take_slots`
pub mod SlotsInTurn
-- the lines of a walk, written as its edges are made: `seeks::seek`, `draws::take`
pub mod DrawnLines
-- a walk that seeks a goal, turn by turn: src/seeks.rt, `draws::draw_trace`
pub mod SoughtGoals
-- a walk that seeks an event ends with the first edge that brings it: src/laws.rt
pub mod BroughtEvents
-- the walk of a seed, and what was written of it: src/draws.rt
pub mod DrawnWalks
-- seeds that are tried one after the other: src/seeds.rt, `draws::drive_drawn`
pub mod FoundSeeds
-- the words of edges that stand in tables: `push_driver`, `push_word`, `push_last_word`
pub mod EdgeWords
