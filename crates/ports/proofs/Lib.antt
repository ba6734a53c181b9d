pub mod Claimed
pub mod Lookups
pub mod Settled
pub mod Yielded
