pub mod Laws
pub mod Numerals
pub mod Reader
