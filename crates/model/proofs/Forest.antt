-- Where nodes stand, and what is below and above them.
pub mod PlaceOf
pub mod Grown
pub mod Rooted
pub mod FormedOnce
pub mod Climbs
pub mod WaysUp
