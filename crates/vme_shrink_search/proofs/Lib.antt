-- what is kept of a list
pub mod Lists
-- lists with edges left out
pub mod Parts
-- a list of which all edges are accepted is legal, and the other way round
pub mod Legal
-- whether the same is said twice
pub mod Alike
-- lists of which nothing can be left out are stories
pub mod Found
-- the edges that lead to a state, one by one
pub mod Leads
-- a search, step by step
pub mod Searches
-- the marks of a history, by the places of its edges
pub mod Marks
-- the level that is compared, and the texts of the conditions
pub mod Levels
