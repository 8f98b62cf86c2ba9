pub mod Access
pub mod Interrupts
pub mod Laws
pub mod Table
pub mod Traps
