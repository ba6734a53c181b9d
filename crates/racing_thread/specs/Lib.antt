pub mod Lines
pub mod Tallies
pub mod Answers
pub mod Racing
