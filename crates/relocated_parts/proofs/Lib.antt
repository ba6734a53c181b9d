pub mod Blocks
pub mod Covered
pub mod Found
pub mod Fold
pub mod Loaded
pub mod Parts
pub mod Words
