mod Answers
mod Data
pub mod Infos
pub mod Low
mod Orders
pub mod Printing
mod Runs
mod Standing
pub mod Telling
pub mod Tied
mod WithoutData
