pub mod Copies
pub mod Moves
pub mod Pages
pub mod Told
