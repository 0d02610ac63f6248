pub mod Types
pub mod Values
pub mod Names
pub mod Filling
pub mod Counting
pub mod Bounding
pub mod Literals
pub mod Fitting
