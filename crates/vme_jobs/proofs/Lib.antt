pub mod Fronts
pub mod Handing
