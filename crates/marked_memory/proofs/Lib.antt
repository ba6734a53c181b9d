pub mod SpaceImages
pub mod Stacks
pub mod Takes
pub mod Writes
