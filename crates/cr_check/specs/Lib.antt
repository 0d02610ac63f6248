pub mod Columns
pub mod Checked
pub mod NameFaults
pub mod Laws
