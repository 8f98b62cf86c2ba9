pub mod Descending
pub mod Dropping
pub mod Engines
mod Erasing
pub mod Filling
pub mod Follows
pub mod Growing
pub mod Keeping
pub mod Knowing
pub mod MarkingPaths
pub mod Mounting
pub mod Opening
mod Putting
pub mod Remembering
pub mod Resting
pub mod Riders
pub mod Saying
pub mod Sparing
pub mod Staying
