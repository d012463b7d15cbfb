-- Worlds and runs that differ in the characters of one password alone.
pub mod Bare
pub mod Faults
pub mod Merging
pub mod OutlineIsEnough
pub mod Sets
pub mod OneOutline
pub mod Answers
pub mod Tellings
pub mod Commands
pub mod Runs
pub mod Words
