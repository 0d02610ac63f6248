pub mod Reach
pub mod Reserved
pub mod Members
pub mod Unused
pub mod Short
pub mod Renamed
pub mod Laws
