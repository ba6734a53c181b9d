pub mod Steps
pub mod OwnTurns
pub mod NoData
pub mod Settings
