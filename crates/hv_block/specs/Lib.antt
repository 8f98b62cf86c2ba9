pub mod Block
pub mod Contents
pub mod Laws
