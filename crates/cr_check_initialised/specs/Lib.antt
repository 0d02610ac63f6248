pub mod Durations
pub mod Anchors
pub mod Known
pub mod Initialised
pub mod Objects
pub mod Faults
pub mod Laws
