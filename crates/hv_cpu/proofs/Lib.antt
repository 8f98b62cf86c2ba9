pub mod Arrays
pub mod Lines
pub mod Masks
