pub mod Shaped
pub mod Sighted
pub mod Sized
pub mod Known
pub mod Laws
