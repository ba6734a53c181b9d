pub mod Shapes
pub mod Ones
pub mod Rewritten
pub mod Spelled
pub mod Kept
