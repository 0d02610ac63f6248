pub mod Shapes
pub mod Operations
pub mod Laws
