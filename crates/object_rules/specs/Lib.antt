pub mod FaultNames
pub mod Kinds
