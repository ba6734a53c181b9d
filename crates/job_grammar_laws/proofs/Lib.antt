pub mod Apart
mod Counted
mod Example
mod Jobs
mod Limits
pub mod LineKinds
mod Lines
mod Listed
mod Numbers
mod Pairs
mod Read
mod Spacing
mod Spellable
mod Spelled
mod Tellable
mod Tests
mod Tied
mod Told
mod Writer
mod Written
