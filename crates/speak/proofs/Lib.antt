pub mod Mirrored
pub mod Rightly
