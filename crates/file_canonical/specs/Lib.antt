pub mod Counting
pub mod Laying
