-- Commands one after another.
pub mod Runs
pub mod RunsAreOne
pub mod RunIsThere
pub mod Repeated
