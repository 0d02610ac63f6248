pub mod Items
pub mod Size
