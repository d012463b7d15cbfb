-- How two worlds differ, and what is told of that.
pub mod DifferencesAreOne
pub mod DifferencesExist
pub mod Reasons
pub mod HostChanges
pub mod SameWorlds
pub mod Tellings
