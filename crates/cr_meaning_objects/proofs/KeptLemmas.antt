pub mod Uses
pub mod Defined
pub mod Kept
pub mod Seen
