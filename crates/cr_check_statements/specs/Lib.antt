pub mod Setting
pub mod Statements
