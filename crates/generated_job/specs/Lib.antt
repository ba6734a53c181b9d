pub mod Accesses
pub mod Drafts
pub mod Generated
pub mod Shapes
