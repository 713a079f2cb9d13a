pub mod Passes
pub mod Listed
pub mod Walks
pub mod Ready
