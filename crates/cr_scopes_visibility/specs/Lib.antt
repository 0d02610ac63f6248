pub mod Alone
pub mod Sight
pub mod Uses
pub mod Parameters
pub mod Told
pub mod Once
pub mod Tagged
