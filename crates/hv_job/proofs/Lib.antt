pub mod Commanding
pub mod Counting
pub mod Ending
pub mod Entering
pub mod Following
pub mod Limiting
pub mod Spanning
pub mod Sampling
