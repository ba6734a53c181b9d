pub mod Arithmetic
pub mod Cause
pub mod Flags
pub mod Four
pub mod Plain
pub mod PlainLaws
pub mod Values
