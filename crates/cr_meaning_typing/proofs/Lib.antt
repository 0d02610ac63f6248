pub mod TypedLemmas
pub mod JudgedLemmas
pub mod ExpressionsLemmas
pub mod CallsLemmas
pub mod StatementsLemmas
pub mod SortsLemmas
pub mod WholeLemmas
