pub mod Labelled
pub mod Marks
pub mod Again
pub mod Gotos
pub mod Kinds
