pub mod Model
pub mod Canonical
pub mod Fit
pub mod Read
pub mod Write
