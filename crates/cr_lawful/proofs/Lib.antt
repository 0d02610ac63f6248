pub mod Rulings
pub mod Looks
pub mod Endings
mod Programs
mod OneRefusal
pub mod OneReason
