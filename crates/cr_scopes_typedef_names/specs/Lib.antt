pub mod Effects
pub mod Tellings
pub mod Parsed
pub mod Typedefs
