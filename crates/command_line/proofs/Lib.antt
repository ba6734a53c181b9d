mod CountLemmas
pub mod Examples
pub mod Taken
