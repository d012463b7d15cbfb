-- Queries and their answers.
pub mod NamedNodes
pub mod ShownFocus
pub mod Raws
pub mod Asked
