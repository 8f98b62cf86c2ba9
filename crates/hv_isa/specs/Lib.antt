pub mod Csrs
pub mod Names
pub mod Table
