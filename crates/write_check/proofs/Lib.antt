pub mod Sheets
pub mod Checking
pub mod Walking
pub mod Ahead
pub mod Counting
pub mod Facts
pub mod Marking
