pub mod Lines
pub mod Fields
pub mod Fronts
pub mod Wholes
