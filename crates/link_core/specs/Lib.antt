-- the words of the crate below for tables and faults, so that this crate has all of a link in one place
pub use Rattle.link_tables.specs.Dynamic
pub use Rattle.link_tables.specs.Faults
pub use Rattle.link_tables.specs.FaultLaws
pub mod Bytes
pub mod ByteLaws
pub mod Images
pub mod Laying
pub mod Laws
pub mod Meant
pub mod Overflows
pub mod Requests
