pub mod Adding
pub mod Numbering
pub mod Prefixes
pub mod Walking
