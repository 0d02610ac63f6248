pub mod Header
pub mod Lines
pub mod KeptTask
pub mod Kept
pub mod Surviving
pub mod Laws
pub mod Promises
pub mod Completing
