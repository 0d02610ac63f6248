pub mod Ruled
pub mod Descents
pub mod Walks
