pub mod Heads
pub mod Once
pub mod Refusals
pub mod Statuses
pub mod Texts
