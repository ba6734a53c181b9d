pub mod Bindings
pub mod Definition
pub mod Imports
pub mod Undefined
