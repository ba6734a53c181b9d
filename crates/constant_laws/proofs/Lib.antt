mod Addresses
mod Jobs
mod Sizes
