pub mod Adds
pub mod Ended
pub mod Led
pub mod Replayed
