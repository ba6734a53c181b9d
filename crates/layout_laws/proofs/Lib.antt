mod Only
mod Found
mod Addresses
mod Offsets
mod Blocks
