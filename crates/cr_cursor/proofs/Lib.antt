pub mod Numbering
pub mod Members
pub mod TokenReasons
