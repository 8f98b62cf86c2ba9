pub mod Blocks
pub mod Edits
pub mod Filling
pub mod Fits
pub mod Same
pub mod Words
