pub mod RunNumbers
pub mod Marks
