pub mod Moves
pub mod Room
-- all that is tested for an edge fits a list of five
pub mod TestedRoom
