-- Values that are held.
pub mod Holding
