pub mod Finding
pub mod Forgotten
pub mod Occurring
pub mod Staying
pub mod Tallies
pub mod Totals
