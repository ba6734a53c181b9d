pub mod Number
pub mod Register
pub mod RegisterLaws
