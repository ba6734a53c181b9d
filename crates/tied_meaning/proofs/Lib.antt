mod Examples
pub mod Values
