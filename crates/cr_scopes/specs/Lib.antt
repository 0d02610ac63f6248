pub mod Looking
pub mod Faults
pub mod Resolved
pub mod Spelled
pub mod Scopes
pub mod States
pub mod Building
pub mod Units
