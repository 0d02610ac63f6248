pub mod Apart
pub mod Orderly
pub mod Names
pub mod Tags
pub mod Found
pub mod Constants
pub mod Asked
