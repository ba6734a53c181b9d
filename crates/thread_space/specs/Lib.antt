pub mod Fetching
pub mod Holding
pub mod Kept
pub mod Live
pub mod OfParts
pub mod Places
pub mod Steps
pub mod Writing
