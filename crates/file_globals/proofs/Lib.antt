pub mod Fielded
pub mod Opened
