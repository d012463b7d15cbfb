-- The worlds that updates leave.
pub mod StatePlaces
pub mod StatesKept
pub mod LaterWorlds
pub mod HostFocus
pub mod Locations
