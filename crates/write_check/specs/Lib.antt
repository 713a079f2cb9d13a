pub mod Answers
pub mod Ahead
pub mod Marked
