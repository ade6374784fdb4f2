-- the tables of an array, read one after another: `arrays::boards`, `arrays::jumpers`
pub mod ArrayTables
-- paths of keys, and the faults at them: `errors::part_path`, `errors::error_of`
pub mod Paths
-- texts that are too deep or not UTF-8, and the others: `scenario::document`
pub mod Documents
-- bytes that change no place of a text: `depth::Place::stays_at`
pub mod Fillers
