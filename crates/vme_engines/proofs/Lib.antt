-- the answers to edges, and their lines: src/lines.rt, `checks::first_refused_of`
pub mod RecordedLines
-- the digits of a number and of the next one: src/counts.rt
pub mod NextNumber
-- a replay, piece by piece: src/replays.rt, `joins::replay_behind`
pub mod ReplayPieces
-- where the first header line of an input is: `Fronts`
pub mod FirstHeader
-- the input before its trace, byte by byte: `Front::take` and `find`, `joins::joined`
pub mod Fronts
-- a trace whose header line was found after a scenario: `joins::start`, `joins::replay_behind`
pub mod AfterScenario
-- a check, piece by piece: src/checks.rt
pub mod CheckPieces
-- a trace that is followed edge by edge: src/following.rt
pub mod FollowedEdges
-- what is printed about a trace: src/explains.rt, src/states.rt
pub mod Printed
-- what is shown of a trace, edge by edge and piece by piece: src/shows.rt
pub mod ShownPieces
-- what is shown of the whole trace: src/shows.rt
pub mod ShownTraces
-- the trace of a legal list is what a check calls legal: src/laws.rt, `drives::drive`
pub mod LegalTrace
-- the rounds of a drive, what it leaves, and that the edges made are well formed: src/drives.rt
pub mod DriveRounds
-- the lines of edges, put to a text as they are made: `DrivenLines`, `DrawnLines`
pub mod ListedLines
-- the lines of a drive, written as its edges are made: `Driving::write`
pub mod DrivenLines
-- the turns of the boards, past those that may not move: `Driving::take_slots`
pub mod SlotsInTurn
-- the lines of a walk, written as its edges are made: `seeks::seek`, `draws::take`
pub mod DrawnLines
-- a walk that seeks a goal, turn by turn: src/seeks.rt, `draws::draw_trace`
pub mod SoughtGoals
-- a walk that seeks an event ends with the first edge that brings it: src/laws.rt
pub mod BroughtEvents
-- the walk of a seed, and what was written of it: src/draws.rt
pub mod DrawnWalks
-- what the edges of a trace come to, piece by piece
pub mod Sums
-- seeds that are tried one after the other: src/seeds.rt, `draws::drive_drawn`
pub mod FoundSeeds
-- the ends of verdict lines in a table
pub mod VerdictEnds
-- the words of edges that stand in tables: `push_driver`, `push_word`, `push_last_word`
pub mod EdgeWords
-- every edge behind a scenario is well formed: src/joins.rt
pub mod FormedStarts
