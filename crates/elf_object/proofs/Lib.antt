pub mod Lists
pub mod Noting
pub mod Ranges
pub mod Sections
pub mod Sums
