pub mod Goods
pub mod Types
pub mod Operators
pub mod Chosen
pub mod Changes
pub mod Places
pub mod Joined
