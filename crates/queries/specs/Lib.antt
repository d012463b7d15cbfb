pub mod Found
pub mod Messages
pub mod Near
pub mod Outcomes
