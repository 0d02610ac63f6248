pub mod Events
pub mod Gaps
pub mod Walks
