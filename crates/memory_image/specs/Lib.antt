pub mod Laying
pub mod Filling
pub mod Tables
pub mod Still
