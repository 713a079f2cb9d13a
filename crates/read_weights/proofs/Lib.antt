pub mod Entity
pub mod Last
pub mod Weighing
pub mod Weights
pub mod Checking
pub mod Facts
