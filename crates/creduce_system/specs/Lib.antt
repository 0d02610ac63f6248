pub mod Progress
pub mod Trial
