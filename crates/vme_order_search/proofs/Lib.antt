-- a list with one more element: `layers::Layer::push`, `trails::Trail::push`
pub mod Lists
-- one more place in a set, and equal sets: `taken::Taken::with`, `search::Search::keep`
pub mod Sets
-- which of two lists is the lesser: `search::Search::run`
pub mod Lesser
-- legal beginnings, and one place more: `search::Search::try_place`
pub mod Legal
-- the beginnings with one place more: `search::Search::lengthen` and what it calls
pub mod Longer
-- which places can come next: `free::is_free`, `free::next_places`
pub mod Next
-- steps of a trail: `trails::Trail`
pub mod Steps
-- the table of a layer: `layers::Layer`
pub mod Tables
-- the longest one: `search::Search::found`
pub mod Ends
-- what a search keeps, step by step: `search::Search`
pub mod Searched
-- what a search begins with, and what is answered: `search::Search::new`, `try_place`, `found`
pub mod Outcomes
-- what `==` says of sets and of kinds: `layers::Layer::find`
pub mod SameKinds
-- a layer with one beginning, whose way is made anew: `trails::Trail::alone`, `search::Search::drop_others`
pub mod Alone
