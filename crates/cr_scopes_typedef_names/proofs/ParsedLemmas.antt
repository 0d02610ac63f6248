pub mod Following
pub mod Rows
pub mod Sides
pub mod Declaring
pub mod Holding
pub mod Special
pub mod Units
