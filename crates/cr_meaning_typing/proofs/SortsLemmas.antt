pub mod Operands
pub mod Objects
pub mod Values
pub mod Expressions
