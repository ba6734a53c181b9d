pub mod Bindings
pub mod FaultNames
pub mod ImageKinds
