pub mod Written
pub mod Spelled
pub mod Filled
pub mod Same
pub mod Fronts
pub mod Whole
pub mod Faults
