pub mod Conditions
pub mod Laws
pub mod Opcodes
pub mod Results
pub mod Steps
pub mod Words
