pub mod First
pub mod Leaves
pub mod Parents
pub mod Words
pub mod Walks
pub mod Named
