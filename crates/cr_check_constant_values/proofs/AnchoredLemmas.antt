pub mod Operands
pub mod Anchoring
pub mod Filling
