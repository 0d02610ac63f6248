pub mod FunctionsLemmas
pub mod ParametersLemmas
pub mod CalleesLemmas
