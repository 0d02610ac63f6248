pub mod Fillings
pub mod Kept
