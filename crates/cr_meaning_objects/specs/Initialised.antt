pub mod Parts
pub mod Taken
pub mod Once
pub mod Asked
pub mod Composites
