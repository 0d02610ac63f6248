pub mod AloneLemmas
pub mod SightLemmas
pub mod UsesLemmas
pub mod ParametersLemmas
pub mod ToldLemmas
pub mod OnceLemmas
pub mod TaggedLemmas
