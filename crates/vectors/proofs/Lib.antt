pub mod Rooms
pub mod Passing
pub mod Packs
