pub mod Entering
pub mod Deciding
pub mod Spelled
