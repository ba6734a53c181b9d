pub mod Loops
pub mod Several
pub mod Writes
