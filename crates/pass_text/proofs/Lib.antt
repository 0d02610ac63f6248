pub mod LineLaws
pub mod LineLemmas
pub mod LineEdits
pub mod Readings
pub mod BracketLemmas
