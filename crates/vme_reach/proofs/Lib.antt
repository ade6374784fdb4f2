-- `laws`: an edge that reaches a goal is of a driver that has what the goal needs
pub mod Reached
