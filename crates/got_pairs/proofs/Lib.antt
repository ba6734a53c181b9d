pub mod Distinct
pub mod Equal
pub mod Served
pub mod Starts
pub mod Tables
