pub mod Functions
pub mod Variables
pub mod Meanings
