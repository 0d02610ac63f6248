pub mod Ordering
pub mod Listing
