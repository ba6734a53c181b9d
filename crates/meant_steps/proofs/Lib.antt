pub mod Begun
pub mod Forms
pub mod Walking
