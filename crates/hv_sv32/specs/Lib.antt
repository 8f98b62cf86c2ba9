pub mod Entry
pub mod Stop
pub mod Walk
