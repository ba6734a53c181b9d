pub mod Data
pub mod Pieces
pub mod Surplus
