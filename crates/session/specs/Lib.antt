pub mod Replied
pub mod Texts
