pub mod Shared
pub mod Cards
pub mod Rules
pub mod Written
