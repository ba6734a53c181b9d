pub mod OutcomeWords
pub mod Texts
