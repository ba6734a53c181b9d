pub mod Powers
pub mod TextLengths
pub mod Written
