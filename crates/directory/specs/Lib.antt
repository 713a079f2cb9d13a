pub mod Fields
pub mod Lines
pub mod Rules
pub mod Reading
pub mod Asking
pub mod Naming
