pub mod Nodes
pub mod Runs
pub mod Grammar
pub mod Loose
