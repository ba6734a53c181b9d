mod Examples
pub mod Found
pub mod Known
pub mod Legal
pub mod Live
pub mod Numbered
pub mod OneInstance
pub mod Placed
pub mod Startup
pub mod StartupNumbers
pub mod StaticOffsets
pub mod Surplus
