pub mod Appending
