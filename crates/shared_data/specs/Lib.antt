pub mod Changes
pub mod Places
pub mod Told
pub mod Steps
pub mod Laws
