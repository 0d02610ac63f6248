pub mod Expression
pub mod Behind
pub mod Names
