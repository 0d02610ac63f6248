pub mod View
pub mod Plays
pub mod Rule
pub mod Pass
pub mod Laws
