pub mod UnitsLemmas
pub mod NamesLemmas
pub mod DeclaredLemmas
pub mod LastingLemmas
pub mod SightLemmas
pub mod LinkedLemmas
