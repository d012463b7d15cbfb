pub mod Carrying
pub mod FactsKnown
pub mod FieldsAlike
pub mod FieldsTold
pub mod Focused
pub mod Hiding
pub mod LeftOut
pub mod Opened
pub mod SaidAlike
pub mod SameRuns
pub mod Shared
pub mod Told
pub mod Viewed
mod Writing
mod StatesWritten
mod Backing
mod Framed
mod Kept
mod PlacesAlike
mod StatesAlike
mod Subtrees
mod LedAlike
pub mod WrittenAlike
pub mod TypedStates
pub mod TypedEvents
