pub mod Callees
pub mod Spelled
pub mod Inlined
