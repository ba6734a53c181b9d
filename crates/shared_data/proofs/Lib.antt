pub mod Last
pub mod Left
pub mod Fits
pub mod Held
pub mod Numbers
pub mod Begins
pub mod Legal
pub mod Turns
pub mod ReadsData
pub mod Orders
pub mod There
pub mod First
pub mod Noting
pub mod Machine
pub mod Meaning
pub mod Jobs
mod Examples
