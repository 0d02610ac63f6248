pub mod Examples
pub mod Runs
pub mod Booleans
pub mod Merging
pub mod Formats
pub mod Quiet
