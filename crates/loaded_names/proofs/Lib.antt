pub mod Defined
pub mod Exports
mod First
pub mod Functions
mod Images
pub mod Imports
pub mod Infos
pub mod Meant
mod Named
mod Runs
pub mod Symbols
pub mod Variables
