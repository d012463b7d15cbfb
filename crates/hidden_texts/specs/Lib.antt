pub mod Alike
pub mod Hidden
pub mod Known
pub mod Laws
pub mod Shown
pub mod Walked
