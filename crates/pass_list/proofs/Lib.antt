pub mod Knowing
pub mod Menus
mod Reading
