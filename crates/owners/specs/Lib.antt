pub mod Owners
pub mod Rules
pub mod InFile
