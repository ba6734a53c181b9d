mod Held
mod LastBytes
pub mod Low
mod Refilled
mod Searching
pub mod Written
