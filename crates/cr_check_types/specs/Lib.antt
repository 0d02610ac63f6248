pub mod Types
pub mod Relations
pub mod Layouts
pub mod Shared
