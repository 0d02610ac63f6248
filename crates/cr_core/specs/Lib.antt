pub mod Row
pub mod Sound
pub mod State
pub mod Machine
pub mod Laws
pub mod Core
