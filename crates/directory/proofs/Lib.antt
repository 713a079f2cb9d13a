pub mod Slots
pub mod Within
pub mod Ranges
pub mod Asked
pub mod Puts
pub mod Round
pub mod Ruled
