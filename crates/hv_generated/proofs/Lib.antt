pub mod Given
pub mod Marks
pub mod Parts
pub mod Levels
pub mod Fitted
pub mod Jobs
