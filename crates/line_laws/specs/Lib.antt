pub mod Counted
pub mod Histories
pub mod Printed
