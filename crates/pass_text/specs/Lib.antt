pub mod Lines
pub mod Runs
pub mod Nesting
pub mod NestingLaws
pub mod Reading
pub mod Brackets
pub mod Laws
