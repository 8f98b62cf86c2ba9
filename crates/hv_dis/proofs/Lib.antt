pub mod Again
pub mod Eights
