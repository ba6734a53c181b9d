pub mod Dataless
pub mod Together
