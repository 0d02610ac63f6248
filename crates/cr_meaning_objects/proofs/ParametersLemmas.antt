pub mod Heads
pub mod Lists
pub mod Names
pub mod Parameters
pub mod Objects
