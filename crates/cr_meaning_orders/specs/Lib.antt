pub mod AnyOrder
pub mod Fixed
pub mod Owned
pub mod Laws
