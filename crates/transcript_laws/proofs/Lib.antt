mod Found
mod Lines
mod Names
mod Numerals
mod Proved
mod Words
