-- Flat texts, and what hides in them.
pub mod TextFacts
pub mod Searching
pub mod Sides
pub mod Indexes
pub mod WholeTexts
pub mod RangeTexts
pub mod Characters
pub mod WordMarks
pub mod Lines
pub mod Secrets
pub mod Outlines
