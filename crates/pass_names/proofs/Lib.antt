pub mod Giving
pub mod Free
pub mod Own
pub mod Hits
pub mod Taken
pub mod Outer
