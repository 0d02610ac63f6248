pub mod Lists
pub mod Loose
pub mod Sums
pub mod Levels
pub mod Laws
