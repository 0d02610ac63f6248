pub mod Parts
pub mod Taken
pub mod Lines
pub mod Twice
pub mod Once
pub mod Asked
pub mod Composites
