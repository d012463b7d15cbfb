pub mod Answered
pub mod Compared
pub mod Parts
pub mod Rows
