pub mod Numerals
pub mod Cutting
pub mod LineCuts
pub mod Parts
pub mod Spelled
