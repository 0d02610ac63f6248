pub mod Spellings
pub mod Last
pub mod Nodes
pub mod Entities
pub mod Stacks
pub mod Entries
pub mod Visible
pub mod Bindings
