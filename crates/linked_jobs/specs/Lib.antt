pub mod Answers
pub mod Data
pub mod Laws
pub mod Ready
pub mod Threads
