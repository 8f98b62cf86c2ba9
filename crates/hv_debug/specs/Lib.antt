pub mod Answers
pub mod Playing
pub mod Reaching
pub mod Transcript
