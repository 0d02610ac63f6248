pub mod Alone
pub mod Sight
pub mod Laws
