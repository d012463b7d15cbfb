pub mod Naming
pub mod Running
pub mod Betweens
pub mod StepEvents
