pub mod Kept
pub mod Names
pub mod Notes
pub mod Printable
