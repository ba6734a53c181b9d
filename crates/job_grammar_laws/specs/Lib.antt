pub mod Derived
pub mod Example
pub mod Grammar
pub mod Images
pub mod Laws
pub mod Numbers
pub mod Spellable
