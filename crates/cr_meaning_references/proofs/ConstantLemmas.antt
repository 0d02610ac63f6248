pub mod Once
pub mod Names
