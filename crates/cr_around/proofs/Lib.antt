pub mod Alone
pub mod Deeds
pub mod Rows
