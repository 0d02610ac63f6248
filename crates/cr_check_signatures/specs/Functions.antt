pub mod Linked
pub mod Outlines
pub mod Laws
