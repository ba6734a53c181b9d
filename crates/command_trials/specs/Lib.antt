pub mod Agreement
pub mod Words
