pub mod Commands
pub mod Drafted
pub mod Inside
pub mod IsJob
pub mod JobOf
pub mod Limited
