mod FreshBlocks
pub mod Kept
pub mod Left
mod PartReads
mod Ranges
mod Relocated
mod Rising
mod Sharing
pub mod TlsKept
mod Untouched
mod Windows
mod WordBytes
