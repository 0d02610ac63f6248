pub mod Finding
pub mod Lasting
pub mod Marked
pub mod Looking
pub mod One
