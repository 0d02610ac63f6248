pub mod Columns
pub mod Outwards
