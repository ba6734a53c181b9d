pub mod Canonical
pub mod Form
pub mod Writing
