pub mod Fuel
pub mod Lines
pub mod Sequence
