pub mod Views
pub mod Steps
pub mod Joining
pub mod TheCore
