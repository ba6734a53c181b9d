pub mod Code
pub mod Faults
pub mod Finding
pub mod Laws
pub mod Sites
