-- The lists of a tree.
pub mod Preorder
pub mod Within
pub mod ListFacts
pub mod StateLists
pub mod PreorderCount
pub mod Frontiers
pub mod Ranges
pub mod Shown
