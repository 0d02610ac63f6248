mod Agreed
pub mod Counted
