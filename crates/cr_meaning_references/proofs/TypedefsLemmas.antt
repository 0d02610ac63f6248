pub mod Spelled
pub mod Parameters
pub mod Columns
pub mod Files
