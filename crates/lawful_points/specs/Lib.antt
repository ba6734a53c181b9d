pub mod Points
pub mod Told
pub mod ToldLaws
pub mod Printed
pub mod Orders
pub mod Raced
pub mod Made
pub mod Laws
