pub mod Types
pub mod Open
