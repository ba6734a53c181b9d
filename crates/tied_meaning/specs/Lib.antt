pub mod Numbers
pub mod Codes
pub mod Sites
pub mod Ties
pub mod Threads
pub mod Laws
