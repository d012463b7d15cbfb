pub mod Distances
pub mod ShownSteps
