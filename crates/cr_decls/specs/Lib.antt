pub mod Programs
pub mod Ellipsis
pub mod Unit
