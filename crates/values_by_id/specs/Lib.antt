pub mod Cells
pub mod Lends
pub mod Index
pub mod Ways
pub mod Found
pub mod Rows
