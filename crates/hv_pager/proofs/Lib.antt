pub mod Demanded
pub mod Followed
pub mod Kept
pub mod Paged
pub mod Pages
pub mod Steps
pub mod Unchanged
