pub mod Begun
pub mod Firsts
