pub mod Lines
pub mod Heads
pub mod Classes
pub mod Passes
pub mod Shown
