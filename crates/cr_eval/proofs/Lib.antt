pub mod Answering
pub mod Arithmetic
