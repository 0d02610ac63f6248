pub mod SharedLemmas
pub mod FunctionsLemmas
pub mod MeantLemmas
