pub mod Seeing
pub mod Single
pub mod Noting
