pub mod Apart
pub mod Bytes
pub mod Laws
pub mod Meant
pub mod Places
pub mod Sections
pub mod Small
