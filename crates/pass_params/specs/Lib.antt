pub mod Functions
pub mod Grouped
pub mod Ordered
pub mod Parameters
