pub mod Stable
pub mod Passes
pub mod Named
pub mod Joined
pub mod Whole
