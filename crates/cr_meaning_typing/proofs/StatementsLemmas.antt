pub mod Goods
pub mod Controls
pub mod Given
