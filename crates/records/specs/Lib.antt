pub mod Record
pub mod Reading
pub mod Flow
pub mod Written
pub mod Global
pub mod Examples
pub mod Items
