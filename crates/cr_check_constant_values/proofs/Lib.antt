pub mod RangesLemmas
pub mod SpelledLemmas
pub mod AnchoredLemmas
