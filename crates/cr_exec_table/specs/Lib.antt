pub mod Names
pub mod Labels
pub mod Roles
pub mod Table
