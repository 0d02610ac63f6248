pub mod Cell
pub mod Kept
pub mod Merge
pub mod Cells
pub mod Foot
