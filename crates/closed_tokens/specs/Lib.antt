pub mod Unclean
pub mod Peeked
pub mod OldDescriptor
pub mod Laws
