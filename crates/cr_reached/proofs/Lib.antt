pub mod Evaluating
pub mod Wholes
pub mod Labelled
pub mod Reaching
