pub mod Equality
pub mod Meeting
pub mod Places
pub mod Settling
pub mod Staying
pub mod Touching
