pub mod Keeping
pub mod Ending
pub mod Setting
pub mod Elements
