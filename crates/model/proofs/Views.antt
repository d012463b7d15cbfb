-- Filters and views.
pub mod ViewFacts
