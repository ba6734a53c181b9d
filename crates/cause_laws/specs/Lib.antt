pub mod Instructions
pub mod Laws
pub mod Operands
pub mod Rows
pub mod Steps
