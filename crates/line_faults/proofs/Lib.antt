pub mod KnownNames
pub mod LinesFound
