pub mod Glues
pub mod Fills
pub mod Spans
