mod Examples
pub mod Fetch
pub mod Lists
pub mod Reading
