-- Filtered siblings, walks, hits and sets.
pub mod Beside
pub mod Between
pub mod Siblings
pub mod Hits
pub mod Sets
pub mod WalkLaws
