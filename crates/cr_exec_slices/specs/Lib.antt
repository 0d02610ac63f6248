pub mod Rest
pub mod Turns
pub mod Shown
pub mod Looks
pub mod Laws
