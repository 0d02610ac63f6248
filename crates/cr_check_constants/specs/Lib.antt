pub mod Constants
pub mod Operators
pub mod Literals
