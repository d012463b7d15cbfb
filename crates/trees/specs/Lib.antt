pub mod Telling
pub mod Replies
pub mod Counts
pub mod Mirrored
pub mod Prepared
pub mod PreparedChanges
