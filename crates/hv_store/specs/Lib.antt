pub mod Access
pub mod Frame
pub mod Space
pub mod Stays
pub mod Zeros
