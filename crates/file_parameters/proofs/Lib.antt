pub mod Blocked
pub mod Spelled
pub mod Valued
