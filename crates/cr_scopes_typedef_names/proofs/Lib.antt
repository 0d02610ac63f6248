pub mod EffectsLemmas
pub mod TellingsLemmas
pub mod ParsedLemmas
pub mod TypedefsLemmas
