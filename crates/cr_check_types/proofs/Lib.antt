pub mod Tables
pub mod Itself
pub mod Fitted
pub mod Shared
pub mod Unqualified
