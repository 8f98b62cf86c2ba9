pub mod Added
pub mod Laws
pub mod Marked
pub mod Plan
pub mod Table
pub mod Upgrade
