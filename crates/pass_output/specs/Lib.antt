pub mod Conversions
pub mod Formats
pub mod Output
