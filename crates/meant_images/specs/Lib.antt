pub mod CodeCells
pub mod Entries
pub mod Images
pub mod Kept
pub mod Marked
pub mod Targets
