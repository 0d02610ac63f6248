pub mod Under
pub mod Orderly
pub mod Names
