pub mod Rounding
pub mod Sections
pub mod Places
pub mod Faults
pub mod Passes
pub mod Lists
pub mod Statics
pub mod Laws
