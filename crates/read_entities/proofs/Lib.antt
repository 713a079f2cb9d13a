pub mod Names
pub mod Feeding
pub mod Passes
pub mod Marking
pub mod Walks
pub mod Entries
