pub mod Told
pub mod Typedefs
pub mod Constant
pub mod Trees
