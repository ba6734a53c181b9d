pub mod Several
pub mod Writable
