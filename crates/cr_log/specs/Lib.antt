pub mod Texts
pub mod Forms
pub mod Reading
pub mod Readers
pub mod Laws
