-- words: which slots a set holds
pub mod Sets
-- words: what numbers of a record stand for
pub mod Records
-- words: what a plan says of each slot and line
pub mod Layouts
-- words: which numbers a history leads to; `BusState::new` and `note` say all that a user needs of
-- it
pub mod States
-- words: whether a board asks at the level that is shown, which rule names an edge, and whose its
-- wire is
pub mod Asks
-- words: what an edge makes of the numbers of a state
pub mod Moves
-- believe, for who keeps a `BusState`: what a step answers and leaves, and where a grant stops
pub mod Steps
-- words: the arm of an edge
pub mod Arms
-- believe, for who keeps `AnswerRecord`s: the answers to edges, and what the numbers of one stand
-- for
pub mod Answers
-- words: which parts of the boards have no edge to make
pub mod Choices
-- words: what of a state the answers to later edges may depend on
pub mod Kinds
