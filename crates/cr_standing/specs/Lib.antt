pub mod Links
pub mod Walk
pub mod Crew
pub mod Ends
