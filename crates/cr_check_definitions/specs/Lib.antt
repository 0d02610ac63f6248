pub mod Known
pub mod Typedefs
pub mod Mains
pub mod Defined
