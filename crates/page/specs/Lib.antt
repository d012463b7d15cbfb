pub mod Endings
pub mod Heads
pub mod Reports
pub mod Runs
pub mod Shown
pub mod States
pub mod Turns
pub mod TypedLaws
