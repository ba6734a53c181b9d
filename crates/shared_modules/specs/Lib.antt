pub mod Crossing
pub mod Laws
pub mod Passes
pub mod Plays
pub mod Rule
pub mod Stable
pub mod Threads
pub mod Views
