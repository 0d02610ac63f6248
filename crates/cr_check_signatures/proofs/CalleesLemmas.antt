pub mod Spelled
pub mod Callees
