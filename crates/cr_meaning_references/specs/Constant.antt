pub mod Outside
pub mod Laws
