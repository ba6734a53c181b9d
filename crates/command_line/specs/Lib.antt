pub mod CommandSet
pub mod Counts
pub mod Rewritings
pub mod Words
