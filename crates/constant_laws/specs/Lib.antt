pub mod Addresses
pub mod Jobs
pub mod Sizes
