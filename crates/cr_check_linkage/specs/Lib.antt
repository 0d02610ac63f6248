pub mod NameTypes
pub mod Linked
pub mod Faults
