pub mod Outlines
pub mod Linked
pub mod Chained
pub mod Followed
