pub mod Alike
pub mod Worlds
pub mod Points
pub mod Laws
