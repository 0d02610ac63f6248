pub mod Passes
pub mod Offers
pub mod OfferLaws
