pub mod AriaRoles
pub mod Names
