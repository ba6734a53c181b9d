mod Cells
mod Parts
