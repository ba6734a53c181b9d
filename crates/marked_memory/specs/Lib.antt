pub mod Holding
pub mod Kept
pub mod Owners
pub mod Spaces
pub mod Stacks
pub mod Writing
