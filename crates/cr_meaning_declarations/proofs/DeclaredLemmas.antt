pub mod Nodes
pub mod Files
pub mod Plans
pub mod Free
pub mod Bodies
pub mod Once
pub mod Runs
