pub mod Lists
pub mod OnePlan
pub mod Inside
pub mod Cells
pub mod Walks
pub mod Plans
