pub mod Asked
pub mod Given
pub mod Laws
pub mod Lines
pub mod NoText
pub mod Shown
pub mod Spans
