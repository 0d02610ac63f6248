pub mod Inherited
pub mod Earlier
