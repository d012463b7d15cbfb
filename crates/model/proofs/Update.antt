-- What an update leaves, and when it is refused.
pub mod Merges
pub mod RebuildIsOne
pub mod RebuildIsThere
pub mod RebuildKeeps
pub mod AcceptedOrFault
pub mod RulesOrFault
pub mod UpdateLeavesState
pub mod StateIsItsOwnRebuild
