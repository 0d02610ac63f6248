pub mod Ruled
pub mod Judged
