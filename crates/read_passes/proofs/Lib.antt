pub mod Listing
pub mod Walks
pub mod Spellings
pub mod Referring
pub mod GlobalText
pub mod Whole
pub mod Facts
pub mod After
