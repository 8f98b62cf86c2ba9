pub mod Lines
pub mod Playings
pub mod Reaches
pub mod Schedules
pub mod Sessions
pub mod Unmoved
