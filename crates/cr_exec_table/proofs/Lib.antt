pub mod Roles
pub mod Names
pub mod Before
pub mod Lists
