pub mod Parts
pub mod Pieces
pub mod Lending
pub mod Laws
