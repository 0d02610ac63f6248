pub mod Scopes
pub mod Laws
