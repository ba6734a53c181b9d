mod Limits
mod Lines
