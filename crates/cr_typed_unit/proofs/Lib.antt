mod Fitted
mod Numbers
pub mod Made
mod SameValues
mod Statics
pub mod OneTypedUnit
