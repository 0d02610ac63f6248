pub mod Codec
pub mod Firsts
pub mod Adds
pub mod Recoveries
