-- believe: the codes that are no rules, and their texts
pub mod Codes
-- believe: what `rule` explains
pub mod Entries
-- believe: what `rule` prints
pub mod Pages
