pub mod Columns
pub mod Nearness
pub mod Shown
pub mod Starts
pub mod Words
