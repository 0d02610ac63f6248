pub mod Chains
pub mod Checks
pub mod Laws
