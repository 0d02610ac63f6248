pub mod Text
pub mod Pieces
pub mod Seams
pub mod Laws
