pub mod Typing
pub mod Breaks
pub mod Statements
pub mod Laws
