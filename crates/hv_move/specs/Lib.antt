pub mod Saved
pub mod Placed
pub mod Laws
