pub mod Lawful
pub mod Looks
pub mod Programs
pub mod Runs
pub mod Laws
