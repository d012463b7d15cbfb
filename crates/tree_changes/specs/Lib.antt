pub mod Refusals
pub mod LookUps
pub mod Changes
pub mod Decisions
pub mod RefusalTexts
