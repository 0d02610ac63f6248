pub mod Arguments
pub mod Clashes
pub mod Taken
pub mod Ends
