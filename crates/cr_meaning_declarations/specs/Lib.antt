pub mod Units
pub mod Names
pub mod Declared
pub mod Lasting
pub mod Sight
pub mod Linked
