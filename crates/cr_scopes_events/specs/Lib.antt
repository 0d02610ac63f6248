pub mod Values
pub mod Declarators
pub mod Scripts
pub mod Events
