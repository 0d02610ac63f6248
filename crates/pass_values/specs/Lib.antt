pub mod Declarators
pub mod Values
