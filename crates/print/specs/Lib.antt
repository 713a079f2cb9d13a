pub mod Bytes
pub mod Taking
pub mod Rows
pub mod Whole
