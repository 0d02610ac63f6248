pub mod Reading
pub mod Positions
pub mod Crews
pub mod Lending
