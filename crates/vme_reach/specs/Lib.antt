-- believe: what an edge that reaches a goal needs of its driver, and who has it
pub mod Needs
-- believe: how it is written that a goal never comes
pub mod Reasons
