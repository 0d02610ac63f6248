mod Trees
mod Rows
mod Found
pub mod SameTrees
pub mod Units
pub mod Verdicts
mod Again
pub mod NameFaults
pub mod OneFault
