pub mod Working
pub mod Setting
pub mod Finding
pub mod Entering
