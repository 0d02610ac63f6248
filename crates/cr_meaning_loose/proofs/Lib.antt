pub mod Tracing
pub mod Summing
pub mod Adding
pub mod Operands
pub mod Listing
pub mod Judging
