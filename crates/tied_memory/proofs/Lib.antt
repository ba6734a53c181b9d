pub mod Ranges
pub mod Bytes
pub mod Live
pub mod Found
pub mod Pointer
pub mod Standing
