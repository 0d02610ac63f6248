pub mod Anchored
pub mod Laws
