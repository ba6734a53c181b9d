pub mod Choices
pub mod ChoiceLaws
pub mod Rows
pub mod Rewriting
pub mod Laws
