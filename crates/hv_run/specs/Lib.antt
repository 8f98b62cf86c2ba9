pub mod Order
pub mod Play
pub mod Promises
pub mod Record
pub mod Run
pub mod Stands
pub mod Text
