pub mod Library
pub mod EachForm
pub mod HandedOver
pub mod LateData
pub mod NoStack
pub mod Laws
