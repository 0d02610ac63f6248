pub mod Events
pub mod Steps
pub mod Again
pub mod Walks
