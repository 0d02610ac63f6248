pub mod Opening
pub mod Gathering
pub mod Listing
pub mod Stacking
pub mod Watching
pub mod Judging
