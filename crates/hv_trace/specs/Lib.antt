pub mod Rows
pub mod Text
pub mod TextFronts
pub mod Kinds
pub mod TextLines
pub mod Flat
pub mod Undo
pub mod Check
