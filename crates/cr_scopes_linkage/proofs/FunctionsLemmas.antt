pub mod Shared
pub mod Told
