pub mod Worlds
pub mod LocalCode
pub mod LocalSites
pub mod Reopened
pub mod Laws
pub mod Tables
