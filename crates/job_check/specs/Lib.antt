pub mod Histories
pub mod Lines
pub mod Progress
pub mod Running
pub mod Standing
pub mod Stepping
pub mod Taking
pub mod Threads
