pub mod Columns
pub mod Tags
pub mod Names
