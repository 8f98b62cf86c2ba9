pub mod Paging
pub mod Row
