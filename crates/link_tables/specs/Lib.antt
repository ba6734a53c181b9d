pub mod Dynamic
pub mod Faults
pub mod FaultLaws
