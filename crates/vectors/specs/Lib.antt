pub mod Passing
pub mod Packs
