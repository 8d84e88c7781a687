mod Cells
mod Exact
mod Growing
mod Keeping
mod Parts
