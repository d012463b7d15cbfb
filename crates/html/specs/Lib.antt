pub mod Escaped
pub mod EscapedLaws
pub mod Written
