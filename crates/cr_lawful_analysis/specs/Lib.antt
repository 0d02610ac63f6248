pub mod Members
pub mod Analysis
pub mod Laws
