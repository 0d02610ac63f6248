pub mod Gathered
pub mod Order
pub mod Places
pub mod Nodes
pub mod Level
