pub mod Places
pub mod Tables
pub mod Ranges
pub mod Firsts
pub mod Units
pub mod Chains
pub mod Longest
pub mod Signs
pub mod Integers
mod Keywords
pub mod Files
pub mod Uniques
pub mod Wholes
pub mod Faults
pub mod Comes
pub mod Measures
pub mod Spellings
