pub mod Known
pub mod Places
pub mod Plans
pub mod Anchors
pub mod Faults
pub mod Steps
pub mod Laws
