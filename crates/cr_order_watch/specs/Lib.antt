pub mod Known
pub mod Judged
