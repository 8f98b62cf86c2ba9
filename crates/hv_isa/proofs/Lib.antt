pub mod Decoding
pub mod Naming
pub mod Spelling
pub mod Registers
