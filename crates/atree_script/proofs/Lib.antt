pub mod Inputs
pub mod Printing
pub mod Stepping
pub mod Plays
pub mod TreeLines
