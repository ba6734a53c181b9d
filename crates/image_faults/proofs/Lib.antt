pub mod HeaderTable
pub mod Counts
pub mod File
pub mod Order
pub mod TablesInside
