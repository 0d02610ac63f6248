pub mod Linked
pub mod Entities
