pub mod Deeds
pub mod Answers
pub mod Table
