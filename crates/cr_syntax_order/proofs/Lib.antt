pub mod Listings
pub mod Alike
