pub mod Counting
pub mod Holding
pub mod Kept
pub mod Laws
pub mod Lending
