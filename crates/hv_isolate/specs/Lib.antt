pub mod Equal
pub mod May
pub mod Settled
pub mod Untouched
