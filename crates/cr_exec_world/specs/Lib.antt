pub mod Names
pub mod Worlds
