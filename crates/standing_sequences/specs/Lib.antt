pub mod Bytes
pub mod Example
pub mod Images
pub mod Laws
pub mod Table
