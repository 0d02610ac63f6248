pub mod Rows
pub mod Steps
pub mod Totals
pub mod LastEntry
pub mod FirstHit
pub mod Entries
pub mod Few
