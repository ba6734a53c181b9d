pub mod Laws
pub mod Map
