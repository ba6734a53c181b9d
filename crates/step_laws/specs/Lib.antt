pub mod Example
pub mod Laws
pub mod Plain
pub mod Reads
pub mod Steps
