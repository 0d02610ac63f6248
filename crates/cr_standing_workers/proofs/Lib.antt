pub mod Rules
pub mod Judges
pub mod Places
mod Memories
