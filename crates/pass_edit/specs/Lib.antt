pub mod Glue
pub mod Space
pub mod Forms
pub mod Edit
pub mod Menu
pub mod Laws
