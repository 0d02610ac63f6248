pub mod Used
pub mod Operators
pub mod Places
