pub mod Tagged
pub mod Laws
