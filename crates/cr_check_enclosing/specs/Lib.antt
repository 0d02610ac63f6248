pub mod Above
pub mod Around
pub mod Repeats
