pub mod Queries
pub mod Definitions
pub mod Places
pub mod Abilities
