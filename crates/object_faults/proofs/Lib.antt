pub mod EndsOfNames
pub mod File
pub mod Order
pub mod Overlaps
pub mod Parts
pub mod SymbolTables
pub mod TargetsFound
pub mod Walks
