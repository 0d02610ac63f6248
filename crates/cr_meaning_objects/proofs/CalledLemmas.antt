pub mod Meant
pub mod Fitting
pub mod Objects
