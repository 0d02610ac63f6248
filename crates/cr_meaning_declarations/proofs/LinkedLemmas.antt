pub mod Owned
pub mod Sorts
pub mod Order
pub mod Columns
