pub mod Turns
pub mod Image
pub mod Spaces
pub mod Calls
pub mod Begin
pub mod Histories
pub mod Endings
pub mod Looks
pub mod Orders
pub mod Blocks
pub mod BlocksBegun
pub mod Alone
pub mod Steps
pub mod OwnBlocks
pub mod Own
pub mod JobRuns
mod ExampleImages
mod Examples
mod JobExamples
mod DataExamples
mod StaticExamples
