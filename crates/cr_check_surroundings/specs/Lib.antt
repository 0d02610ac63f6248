pub mod Raised
pub mod Named
pub mod Links
pub mod Previous
pub mod Bound
pub mod Surroundings
pub mod Laws
