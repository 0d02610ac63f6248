pub mod Parts
pub mod Feet
pub mod Joins
pub mod Turns
pub mod Laws
