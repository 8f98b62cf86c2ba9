pub mod Merge
pub mod Naming
pub mod Places
