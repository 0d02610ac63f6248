pub mod Holding
pub mod MemPlace
pub mod Refusals
pub mod Replacing
