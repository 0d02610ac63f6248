pub mod Ops
pub mod Rows
pub mod Handing
pub mod Simple
pub mod Blocks
pub mod Owning
