pub mod Entries
pub mod Laws
pub mod Needs
pub mod Plans
