pub mod Keeping
pub mod Replay
pub mod Times
pub mod Laws
