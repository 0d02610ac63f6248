pub mod Replay
pub mod Programs
