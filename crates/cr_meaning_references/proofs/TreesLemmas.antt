pub mod Grammar
pub mod Expressions
pub mod Tree
pub mod Above
pub mod Fitting
pub mod Shaped
pub mod Sighted
