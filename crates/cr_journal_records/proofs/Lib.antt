pub mod Blocks
pub mod Steps
pub mod Adding
pub mod Cuts
pub mod Beginning
pub mod Repairs
pub mod Readings
pub mod Standing
