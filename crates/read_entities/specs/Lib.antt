pub mod Taking
pub mod Answers
pub mod Marks
pub mod Walking
