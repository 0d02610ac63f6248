pub mod Variants
pub mod Stops
pub mod TokenLaw
