pub mod Own
pub mod Closed
