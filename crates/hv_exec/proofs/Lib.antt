pub mod Few
pub mod Keeps
pub mod Leaves
