pub mod Ends
mod Passed
mod Typed
