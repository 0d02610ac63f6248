pub mod Telling
pub mod First
pub mod Sight
