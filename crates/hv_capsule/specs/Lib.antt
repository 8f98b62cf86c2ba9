pub mod Parked
pub mod Text
pub mod Lines
pub mod Kinds
