pub mod Sizes
pub mod Runs
pub mod Keeping
mod Sums
mod Tries
mod Lists
mod Works
mod Ends
mod Crews
mod More
mod Remembering
mod Notes
mod Examples
mod Keys
