pub mod KnownLemmas
pub mod FoundLemmas
pub mod FittingLemmas
