pub mod Dis
