pub mod Typed
pub mod Made
pub mod Laws
