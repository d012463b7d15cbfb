pub mod Deciding
pub mod PlanEvents
pub mod Refocused
pub mod Seen
pub mod Mirroring
pub mod Preparing
pub mod Focusing
