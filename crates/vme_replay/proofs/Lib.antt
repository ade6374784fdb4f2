-- the answers to edges, and their lines: src/lines.rt, `checks::first_refused_of`
pub mod RecordedLines
-- the digits of a number and of the next one: src/counts.rt
pub mod NextNumber
-- what is left of a trace: src/replays.rt, `joins::replay_rest`
pub mod LeftOfTrace
-- where the first header line of an input is: `Fronts`
pub mod FirstHeader
-- the input before its trace, byte by byte: `Front::take` and `find`, `joins::joined`
pub mod Fronts
-- a trace whose header line was found after a scenario: `joins::start`, `joins::replay_behind`
pub mod AfterScenario
-- the ends of verdict lines in a table
pub mod VerdictEnds
-- every edge behind a scenario is well formed: src/joins.rt
pub mod FormedStarts
