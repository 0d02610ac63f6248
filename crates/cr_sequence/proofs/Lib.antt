pub mod Making
pub mod Showing
pub mod Parts
pub mod Writing
pub mod Extending
