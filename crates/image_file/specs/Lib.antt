pub mod Refusals
pub mod Spelled
pub mod Tabled
pub use Rattle.image_faults.specs.Faults
