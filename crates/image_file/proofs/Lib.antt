pub mod Left
pub mod PartsLent
pub mod RelocationsLent
