pub mod Drained
pub mod Fitting
pub mod Listing
pub mod Outcomes
