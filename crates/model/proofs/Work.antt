-- The numbers that bound an update.
pub mod WorkIsOne
pub mod WorkIsThere
