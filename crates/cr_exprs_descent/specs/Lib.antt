pub mod Source
pub mod Tables
pub mod Loose
pub mod Answers
pub mod Parts
