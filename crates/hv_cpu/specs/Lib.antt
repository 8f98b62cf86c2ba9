pub mod Arrays
pub mod Lines
pub mod Masks
pub mod Modes
pub mod Regs
pub mod View
