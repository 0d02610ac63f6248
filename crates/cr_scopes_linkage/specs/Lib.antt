pub mod Shared
pub mod Functions
pub mod Meant
