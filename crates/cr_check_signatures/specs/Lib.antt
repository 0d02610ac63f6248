pub mod Functions
pub mod Parameters
pub mod Callees
