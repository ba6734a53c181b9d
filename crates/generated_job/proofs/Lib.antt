mod Counting
mod Objects
mod Parts
