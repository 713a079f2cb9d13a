pub mod Filed
pub mod Lined
pub mod Ended
pub mod Said
pub mod Tailed
