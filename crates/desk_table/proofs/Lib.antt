pub mod Plans
pub mod Slots
