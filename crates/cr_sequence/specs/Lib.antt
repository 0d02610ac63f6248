pub mod Kept
pub mod Stretches
pub mod Written
