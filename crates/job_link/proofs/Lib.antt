pub mod Exported
pub mod Filled
pub mod Held
pub mod Pushed
pub mod Unseen
