pub mod IntKind
pub mod Conversions
pub mod Operations
pub mod Bits
pub mod Laws
