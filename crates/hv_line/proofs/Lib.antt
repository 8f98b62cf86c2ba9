pub mod Answering
pub mod Cutting
pub mod Numbering
pub mod Ranging
pub mod Reading
pub mod Shapes
pub mod Spacing
pub mod Versions
