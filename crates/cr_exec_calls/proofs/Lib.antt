pub mod Clashing
pub mod Converting
pub mod Calling
pub mod Taking
pub mod Ending
pub mod Printing
pub mod Joining
