pub mod Labels
pub mod Statements
pub mod Whole
pub mod Around
