pub mod ToldLemmas
pub mod TypedefsLemmas
pub mod ConstantLemmas
pub mod TreesLemmas
