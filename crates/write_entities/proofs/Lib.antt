pub mod Judging
pub mod Typed
