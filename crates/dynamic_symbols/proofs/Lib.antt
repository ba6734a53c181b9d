pub mod Adding
pub mod Foreign
pub mod Lists
pub mod Named
pub mod Sums
pub mod Unasked
