pub mod Conversions
pub mod Readings
pub mod Unique
pub mod Agreement
pub mod Integers
