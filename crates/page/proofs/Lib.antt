pub mod Drawn
pub mod Ended
pub mod Failing
pub mod Items
pub mod Reporting
mod Turned
mod TypedReports
mod TypedPages
mod TypedRuns
