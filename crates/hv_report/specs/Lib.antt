pub mod Check
pub mod Dumps
pub mod Report
pub mod Summary
