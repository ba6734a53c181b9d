pub mod FaultNames
pub mod Rules
