mod Letters
mod Links
mod Rows
mod Values
