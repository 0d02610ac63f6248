pub mod Over
pub mod Safe
