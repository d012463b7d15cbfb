pub mod FlatRuns
pub mod RunSteps
pub mod BoundarySearches
