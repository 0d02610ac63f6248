pub mod Piece
pub mod Format
pub mod Conversion
pub mod Argument
pub mod Reading
pub mod Laws
