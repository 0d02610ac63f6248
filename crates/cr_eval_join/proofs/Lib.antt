pub mod Booleans
pub mod Operands
pub mod Arguments
pub mod Own
pub mod Spans
pub mod Nodes
pub mod Turning
