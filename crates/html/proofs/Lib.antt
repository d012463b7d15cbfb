pub mod Beginnings
pub mod Escapes
