pub mod Evaluated
pub mod Own
pub mod Reached
pub mod Laws
