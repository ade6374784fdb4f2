-- src/files.rt: a text that was read with a limit is all of its bytes
pub mod Fronts
-- src/jobs.rt: the answer of an engine, as a job passes it on
pub mod Handing
-- src/jobs.rt: traces that are added up, file by file
pub mod Adding
-- src/escapes.rt: a name on one line, character by character
pub mod EscapedNames
-- src/jobs.rt: two traces that are compared, and the fault that is passed on
pub mod Compared
-- src/checks.rt: traces that are checked, file by file
pub mod CheckedFiles
-- src/goals.rt, src/jobs.rt: a goal that something may hinder
pub mod Reaching
