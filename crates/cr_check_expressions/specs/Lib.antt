pub mod Forms
pub mod Known
pub mod Ruled
pub mod Breaks
pub mod Used
