pub mod Whole
pub mod Linked
