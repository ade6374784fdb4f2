pub mod Building
pub mod Operands
