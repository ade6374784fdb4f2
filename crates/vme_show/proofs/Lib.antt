-- the marks of a row, one after another: src/lines.rt
pub mod Rows
-- texts that are written one after another, and the whole picture: src/windows.rt
pub mod Whole
-- whom a row shows: src/laws.rt
pub mod Letters
-- what is shown of a trace, edge by edge and piece by piece: src/shows.rt
pub mod ShownPieces
-- what is shown of the whole trace: src/shows.rt
pub mod ShownTraces
