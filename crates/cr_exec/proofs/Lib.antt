pub mod Coming
pub mod Dispatching
