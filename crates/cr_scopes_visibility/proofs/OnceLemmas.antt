pub mod Counting
pub mod Meaning
