pub mod Typed
pub mod Judged
pub mod Expressions
pub mod Calls
pub mod Statements
pub mod Sorts
pub mod Whole
