pub mod Ranges
pub mod Spelled
pub mod Anchored
