pub mod Turning
pub mod Valued
