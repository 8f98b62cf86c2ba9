pub mod Back
pub mod Calls
pub mod Deeds
pub mod First
pub mod Formed
pub mod Inside
pub mod Late
pub mod Means
pub mod Room
pub mod Saying
pub mod Steps
pub mod Telling
pub mod Tests
pub mod Through
pub mod Ways
mod Worded
