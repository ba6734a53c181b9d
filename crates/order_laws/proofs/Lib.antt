pub mod Points
pub mod Related
pub mod Sticky
pub mod Turns
pub mod Worlds
