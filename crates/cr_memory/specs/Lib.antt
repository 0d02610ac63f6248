pub mod Kind
pub mod Memory
pub mod Access
pub mod Pointers
pub mod Continues
pub mod Laws
pub mod Flat
pub mod Spans
