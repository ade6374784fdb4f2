-- no rule has more than seven conditions
pub mod Few
