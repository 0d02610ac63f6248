pub mod Spelled
pub mod Defined
pub mod Mains
