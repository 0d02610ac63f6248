pub mod Appended
pub mod Reading
