pub mod Types
pub mod ReadApart
pub mod WriteApart
pub mod Sizes
